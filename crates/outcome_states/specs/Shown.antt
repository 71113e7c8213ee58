-- The observables that states show.
use Rattle.std.specs.Prelude.{ℕ, ◌≡◌, Bool, ◌||◌, List}
use Rattle.std.specs.List.{list_any, filter_map}
use Rattle.std.specs.List.Sorted.{IsStrictlySortedBy}
use Rattle.text_values.specs.declared.test.Place.{Place}
use Rattle.outcome_states.specs.Meaning.{known_observable}
use Rattle.outcome_states.specs.Order.{observable_cmp, is_observable}
use Rattle.outcome_states.specs.declared.observable.Observable.{Observable}

abbrev pub known_observables : List (List ℕ) → List Place → List Observable
known_observables locations observables = filter_map (known_observable locations) observables

abbrev pub is_among : List Observable → Observable → Bool
is_among observables p = list_any (is_observable p) observables

-- the second list has the observables of the first and these
abbrev pub AddsObservables : List Observable → List Observable → List Observable → Type 0
AddsObservables old new added =
    (p : Observable) → is_among new p ≡ (is_among old p || is_among added p)

-- the observables of a text that are known, in order, each once
pub record AreShown (locations : List (List ℕ)) (observables : List Place) (shown : List Observable)
    : Type 0 where
  pub ordered : IsStrictlySortedBy observable_cmp shown
  pub exact : (p : Observable)
      → is_among shown p ≡ is_among (known_observables locations observables) p
