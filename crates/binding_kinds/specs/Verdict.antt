-- The first fault of names, as it is looked for.
use Rattle.std.specs.Prelude.{ℕ, List, [], ◌∷◌, Bool, true, false, ◌&&◌, nat_le, nat_lt, length, bytes_eq, if◌then◌else◌, Option, Some, None, ◌||◌}
use Rattle.binding_kinds.specs.declared.fault.ModelFault.{ModelFault}
use Rattle.binding_kinds.specs.declared.fault.ModelFault.TheVariants as faults
use Rattle.binding_kinds.specs.declared.kinds.Kind.{Kind}
use Rattle.binding_kinds.specs.declared.kinds.Kind.TheVariants.{OfSet, OfRelation, OfAny}
use Rattle.binding_kinds.specs.declared.scope.Found.{Found}
use Rattle.binding_kinds.specs.declared.scope.Binder.{Binder}
use Rattle.binding_kinds.specs.declared.scope.Binder.TheVariants as binders

-- the first fault that is there
abbrev pub or_else : Option ModelFault → Option ModelFault → Option ModelFault
or_else None later = later
or_else (Some k) later = Some k

-- the fault, unless the test holds
abbrev pub unless : Bool → ModelFault → Option ModelFault
unless true k = None
unless false k = Some k

-- the fault of a name that may be recursive
abbrev pub of_slot : ℕ → Bool → ℕ → Option ModelFault
of_slot from under slot = if under && nat_le from slot then Some faults.NotMonotone else None

abbrev pub of_use : Binder → ℕ → Bool → ℕ → Option ModelFault
of_use (binders.Predefined p) from under slot = of_slot from under slot
of_use (binders.Bound i) from under slot = of_slot from under slot
of_use (binders.Applicable f) from under slot = Some faults.Arity

abbrev pub of_name : ℕ → Bool → Option Found → Option ModelFault
of_name from under None = Some faults.Unbound
of_name from under (Some f) = of_use f.binder from under f.slot

abbrev pub is_seen : List (List ℕ) → List ℕ → Bool
is_seen [] x = false
is_seen (n ∷ ns) x = bytes_eq n x || is_seen ns x

-- the fault of a parameter after those that are seen: it stands twice, or it is the ninth
abbrev pub of_parameter : List (List ℕ) → List ℕ → Option ModelFault
of_parameter earlier p =
    if is_seen earlier p then Some faults.Duplicate
    else unless (nat_lt (length earlier) 8) faults.TooLarge

-- the first fault of parameters after those that are seen, the latest first
abbrev pub of_parameters : List (List ℕ) → List (List ℕ) → Option ModelFault
of_parameters earlier [] = None
of_parameters earlier (p ∷ ps) = or_else (of_parameter earlier p) (of_parameters (p ∷ earlier) ps)

abbrev pub is_of_set : Kind → Bool
is_of_set OfSet = true
is_of_set OfRelation = false
is_of_set OfAny = false
