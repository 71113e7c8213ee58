-- The orders of observables, of values and of states.
use Rattle.std.specs.Prelude.{Bool, List}
use Rattle.std.specs.Ordering.{nat_cmp, int_cmp, ordering_then, is_eq}
use Rattle.std.specs.Cmp.Lexicographic.{slice_cmp}
use Rattle.std.specs.declared.cmp.Ordering.{Ordering}
use Rattle.std.specs.declared.cmp.Ordering.TheVariants.{Less, Equal, Greater}
use Rattle.outcome_states.specs.declared.answer.FinalValue.{FinalValue}
use Rattle.outcome_states.specs.declared.answer.FinalValue.TheVariants.{Number, Address, NoValue}
use Rattle.outcome_states.specs.declared.observable.Observable.{Observable}
use Rattle.outcome_states.specs.declared.observable.Observable.TheVariants.{Register, Location}

-- registers by thread and number, then locations
abbrev pub observable_cmp : Observable → Observable → Ordering
observable_cmp (Register thread register) (Register thread' register') =
    ordering_then (nat_cmp thread thread') (nat_cmp register register')
observable_cmp (Register thread register) (Location location) = Less
observable_cmp (Location location) (Register thread register) = Greater
observable_cmp (Location location) (Location location') = nat_cmp location location'

-- numbers, then addresses, then what has no value
abbrev pub value_cmp : FinalValue → FinalValue → Ordering
value_cmp (Number m) (Number n) = int_cmp m n
value_cmp (Number m) (Address l) = Less
value_cmp (Number m) NoValue = Less
value_cmp (Address k) (Number n) = Greater
value_cmp (Address k) (Address l) = nat_cmp k l
value_cmp (Address k) NoValue = Less
value_cmp NoValue (Number n) = Greater
value_cmp NoValue (Address l) = Greater
value_cmp NoValue NoValue = Equal

-- by the first index at which two states differ
abbrev pub state_cmp : List FinalValue → List FinalValue → Ordering
state_cmp = slice_cmp value_cmp

abbrev pub is_observable : Observable → Observable → Bool
is_observable p q = is_eq (observable_cmp p q)

abbrev pub is_state : List FinalValue → List FinalValue → Bool
is_state v w = is_eq (state_cmp v w)
