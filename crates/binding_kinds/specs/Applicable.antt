-- What names with arguments stand for, and what is counted in a template.
use Rattle.std.specs.Prelude.{ℕ, Bool, true, false, if◌then◌else◌, nat_eq, Option, Some, None, Result, Ok, Err}
use Rattle.binding_kinds.specs.declared.fault.ModelFault.{ModelFault}
use Rattle.binding_kinds.specs.declared.fault.ModelFault.TheVariants as faults
use Rattle.binding_kinds.specs.declared.scope.Found.{Found}
use Rattle.binding_kinds.specs.declared.scope.Binder.{Binder}
use Rattle.binding_kinds.specs.declared.scope.Binder.TheVariants as binders
use Rattle.binding_kinds.specs.declared.function.Piece.{Piece}
use Rattle.binding_kinds.specs.declared.function.Piece.TheVariants as pieces

-- the function, where it has so many parameters
abbrev pub applied : ℕ → ℕ → Option ℕ → Result ℕ ModelFault
applied function count None = Err faults.Arity
applied function count (Some arity) = if nat_eq arity count then Ok function else Err faults.Arity

abbrev pub applied_binder : (ℕ → Option ℕ) → ℕ → Binder → Result ℕ ModelFault
applied_binder arity_of count (binders.Predefined p) = Err faults.Arity
applied_binder arity_of count (binders.Bound i) = Err faults.Arity
applied_binder arity_of count (binders.Applicable f) = applied f count (arity_of f)

-- The function that a name with so many arguments stands for, given how many parameters each
-- function has.
abbrev pub applied_found : (ℕ → Option ℕ) → ℕ → Option Found → Result ℕ ModelFault
applied_found arity_of count None = Err faults.Unbound
applied_found arity_of count (Some f) = applied_binder arity_of count f.binder

-- A parameter hides any other name, and is no function.
abbrev pub applied_of : (ℕ → Option ℕ) → ℕ → Option ℕ → Option Found → Result ℕ ModelFault
applied_of arity_of count (Some p) o = Err faults.Arity
applied_of arity_of count None o = applied_found arity_of count o

abbrev pub is_no_parameter : Piece → Bool
is_no_parameter (pieces.Value f) = true
is_no_parameter (pieces.Parameter p) = false
is_no_parameter pieces.Everything = true
is_no_parameter pieces.NoPairs = true
is_no_parameter pieces.NoEvents = true
is_no_parameter (pieces.Joined op) = true
is_no_parameter (pieces.Marked op) = true
is_no_parameter pieces.Complement = true
is_no_parameter pieces.Identity = true

-- the piece is the parameter at that index
abbrev pub is_parameter_at : ℕ → Piece → Bool
is_parameter_at index (pieces.Value f) = false
is_parameter_at index (pieces.Parameter p) = nat_eq p index
is_parameter_at index pieces.Everything = false
is_parameter_at index pieces.NoPairs = false
is_parameter_at index pieces.NoEvents = false
is_parameter_at index (pieces.Joined op) = false
is_parameter_at index (pieces.Marked op) = false
is_parameter_at index pieces.Complement = false
is_parameter_at index pieces.Identity = false
