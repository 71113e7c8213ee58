-- The kinds of dependencies.
use Rattle.std.specs.Prelude.{ℕ}
use Rattle.meaning.specs.Dependencies.{Instructions, IsAddr, IsData, IsNeed, IsCtrl, IsCtrlIsync}
use Rattle.plain_executions.specs.declared.dependent.Kind.{Kind}
use Rattle.plain_executions.specs.declared.dependent.Kind.TheVariants.{Address, Data, Need, Control, ControlIsync}

-- the dependency of a kind
abbrev pub dependency_of : Kind → Instructions → ℕ → ℕ → Type 0
dependency_of Address = IsAddr
dependency_of Data = IsData
dependency_of Need = IsNeed
dependency_of Control = IsCtrl
dependency_of ControlIsync = IsCtrlIsync
