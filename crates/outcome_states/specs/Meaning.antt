-- When a state satisfies a proposition.
use Rattle.std.specs.Prelude.{ℕ, Bool, true, false, not, ◌&&◌, ◌||◌, ◌==◌, List, [], ◌∷◌, ◌++◌, Option, Some, None, position}
use Rattle.std.specs.Option.{option_map}
use Rattle.std.specs.Ordering.{int_eq}
use Rattle.text_values.specs.declared.test.Connective.{Connective}
use Rattle.text_values.specs.declared.test.Connective.TheVariants.{And, Or, Implies}
use Rattle.text_values.specs.declared.test.Place.{Place}
use Rattle.text_values.specs.declared.test.Place.TheVariants as places
use Rattle.text_values.specs.declared.test.Value as text
use Rattle.text_values.specs.declared.test.Value.TheVariants as texts
use Rattle.text_values.specs.TestValue.{Formula, Constant, Holds, Not, Join}
use Rattle.outcome_states.specs.Names.{is_name}
use Rattle.outcome_states.specs.declared.answer.FinalValue.{FinalValue}
use Rattle.outcome_states.specs.declared.answer.FinalValue.TheVariants as values
use Rattle.outcome_states.specs.declared.observable.Observable.{Observable}
use Rattle.outcome_states.specs.declared.observable.Observable.TheVariants as shown

-- the index of a name among the locations of a test
abbrev pub location_of : List (List ℕ) → List ℕ → Option ℕ
location_of locations name = position (is_name name) locations

-- an observable that a test writes, where its location is one of the test
abbrev pub known_observable : List (List ℕ) → Place → Option Observable
known_observable locations (places.Register thread register) = Some (shown.Register thread register)
known_observable locations (places.Location name) =
    option_map shown.Location (location_of locations name)

-- a value that a test writes, where its location is one of the test
abbrev pub known_value : List (List ℕ) → text.Value → Option FinalValue
known_value locations (texts.Number number) = Some (values.Number number)
known_value locations (texts.Address name) = option_map values.Address (location_of locations name)

abbrev pub is_value : FinalValue → FinalValue → Bool
is_value (values.Number m) (values.Number n) = int_eq m n
is_value (values.Address k) (values.Address l) = k == l
is_value values.NoValue values.NoValue = true
is_value (values.Number m) (values.Address l) = false
is_value (values.Number m) values.NoValue = false
is_value (values.Address k) (values.Number n) = false
is_value (values.Address k) values.NoValue = false
is_value values.NoValue (values.Number n) = false
is_value values.NoValue (values.Address l) = false

-- whether a known observable holds a known value: nothing holds of others
abbrev pub is_held : (Observable → FinalValue) → Option Observable → Option FinalValue → Bool
is_held content (Some observable) (Some value) = is_value (content observable) value
is_held content (Some observable) None = false
is_held content None value = false

abbrev pub joined_by : Connective → Bool → Bool → Bool
joined_by And a b = a && b
joined_by Or a b = a || b
joined_by Implies a b = not a || b

-- whether a proposition is true where the observables hold this
abbrev pub satisfies : List (List ℕ) → (Observable → FinalValue) → Formula → Bool
satisfies locations content (Constant b) = b
satisfies locations content (Holds observable value) =
    is_held content (known_observable locations observable) (known_value locations value)
satisfies locations content (Not a) = not (satisfies locations content a)
satisfies locations content (Join op a b) =
    joined_by op (satisfies locations content a) (satisfies locations content b)

-- the observables of a proposition
abbrev pub observables_of : Formula → List Place
observables_of (Constant b) = []
observables_of (Holds observable value) = observable ∷ []
observables_of (Not a) = observables_of a
observables_of (Join op a b) = observables_of a ++ observables_of b
