-- States as they are printed.
use Rattle.std.specs.Prelude.{ℕ, List, [], ◌++◌, map, slice_index_or, codes}
use Rattle.std.specs.List.{zip}
use Rattle.std.specs.Fmt.{signed_decimal}
use Rattle.text_values.specs.declared.test.Place.{Place}
use Rattle.text_values.specs.declared.test.Place.TheVariants as places
use Rattle.litmus_printing.specs.Printing.{place_text}
use Rattle.text_values.specs.Joined.{joined}
use Rattle.outcome_states.specs.declared.answer.FinalValue.{FinalValue}
use Rattle.outcome_states.specs.declared.answer.FinalValue.TheVariants as values
use Rattle.outcome_states.specs.declared.observable.Observable.{Observable}
use Rattle.outcome_states.specs.declared.observable.Observable.TheVariants as shown

-- the name of the location of this index among those of the test
abbrev pub name_at : List (List ℕ) → ℕ → List ℕ
name_at locations location = slice_index_or locations location []

-- an observable of a state, as tests write it
abbrev pub place_of : List (List ℕ) → Observable → Place
place_of locations (shown.Register thread register) = places.Register thread register
place_of locations (shown.Location location) = places.Location (name_at locations location)

abbrev pub value_text : List (List ℕ) → FinalValue → List ℕ
value_text locations (values.Number number) = signed_decimal number
value_text locations (values.Address location) = name_at locations location
value_text locations values.NoValue = []

-- what an observable holds, as `1:r1=0;`
abbrev pub held_text : List (List ℕ) → Observable → FinalValue → List ℕ
held_text locations observable value =
    place_text (place_of locations observable)
    ++ (codes "=" ++ (value_text locations value ++ codes ";"))

-- the state, its observables joined by one space
abbrev pub state_text : List (List ℕ) → List Observable → List FinalValue → List ℕ
state_text locations observables values =
    joined (codes " ") (map (λ x. held_text locations x.0 x.1) (zip observables values))
