-- What names without arguments stand for.
use Rattle.std.specs.Prelude.{ℕ, List, [], ◌∷◌, length, bytes_eq, if◌then◌else◌, Option, Some, None, Result, Ok, Err}
use Rattle.binding_kinds.specs.declared.fault.ModelFault.{ModelFault}
use Rattle.binding_kinds.specs.declared.fault.ModelFault.TheVariants as faults
use Rattle.binding_kinds.specs.declared.scope.Found.{Found}
use Rattle.binding_kinds.specs.declared.scope.Binder.{Binder}
use Rattle.binding_kinds.specs.declared.scope.Binder.TheVariants as binders
use Rattle.binding_kinds.specs.declared.sight.Meaning.{Meaning}
use Rattle.binding_kinds.specs.declared.sight.Meaning.TheVariants as meanings
use Rattle.binding_kinds.specs.declared.sight.Named.{Named}
use Rattle.binding_kinds.specs.declared.sight.Named.TheVariants as named

-- the index of the parameter of that name, of parameters of which the latest is the first
abbrev pub parameter_of : List (List ℕ) → List ℕ → Option ℕ
parameter_of [] x = None
parameter_of (p ∷ ps) x = if bytes_eq p x then Some (length ps) else parameter_of ps x

abbrev pub meaning_found : Found → Binder → Result Meaning ModelFault
meaning_found f (binders.Predefined p) = Ok (meanings.Value f)
meaning_found f (binders.Bound i) = Ok (meanings.Value f)
meaning_found f (binders.Applicable g) = Err faults.Arity

-- A parameter hides any other name.
abbrev pub meaning_of : Option ℕ → Option Found → Result Meaning ModelFault
meaning_of (Some p) o = Ok (meanings.Parameter p)
meaning_of None None = Err faults.Unbound
meaning_of None (Some f) = meaning_found f f.binder

-- what a name is found to be
abbrev pub named_of : Option ℕ → Option Found → Named
named_of (Some p) o = named.Parameter p
named_of None o = named.Other o

abbrev pub meaning_named : Named → Result Meaning ModelFault
meaning_named (named.Parameter p) = Ok (meanings.Parameter p)
meaning_named (named.Other o) = meaning_of None o
