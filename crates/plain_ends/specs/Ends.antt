-- Where an execution ends, as the code finds it.
use denote.Ref.{Bor}
use Rattle.std.specs.Prelude.{ℕ, ◌≡◌, ◌↔◌, ◌⊎◌, List, [], ◌∷◌, ◌++◌, map, Contains, IsTrue, Option, Some, None, option_map, slice_get}
use Rattle.text_values.specs.declared.test.Place.{Place}
use Rattle.text_values.specs.declared.test.Connective.{Connective}
use Rattle.text_values.specs.declared.test.Connective.TheVariants.{And, Or, Implies}
use Rattle.text_values.specs.TestValue.{Content}
use Rattle.meaning.specs.Names.{Name, is_same_observable}
use Rattle.meaning.specs.Machine as machine
use Rattle.meaning.specs.Executions.{Event, Execution}
use Rattle.meaning.specs.Outcome.{is_observable_before, EndsWith, EndsIn, Satisfies}
use Rattle.plain_machine.specs.declared.value.Value.{Value}
use Rattle.plain_machine.specs.Values.{value_as}
use Rattle.plain_runs.specs.Locations.{with_each}
use Rattle.plain_events.specs.declared.event.Event as code
use Rattle.plain_events.specs.Events.{event_as}
use Rattle.plain_ends.specs.declared.ending.End.{End}

-- the observables that references lead to
abbrev pub places_as : List (Bor Place) → List Place
places_as ps = map (λ p. p.now) ps

abbrev pub values_as : List Value → List machine.Value
values_as vs = map value_as vs

-- observables in order, with those of a list, each once
abbrev pub with_places : List Place → List Place → List Place
with_places ps places = with_each is_same_observable is_observable_before ps places

-- The name stands at the index, or nowhere.
abbrev pub IsIndexOf : Name → List Name → Option ℕ → Type 0
IsIndexOf l ns None = Contains ns l → ⊥
IsIndexOf l ns (Some k) = slice_get ns k ≡ Some l

-- The event is the last of the list at the index.
abbrev pub IsLastAt : List (List Event) → ℕ → Event → Type 0
IsLastAt orders index e =
    (order : List Event) × (before : List Event) × (slice_get orders index ≡ Some order)
    × (order ≡ before ++ e ∷ [])

-- The code found the event.
abbrev pub IsEventFound : Option code.Event → Event → Type 0
IsEventFound found e = option_map event_as found ≡ Some e

-- The code found the value.
abbrev pub IsValueFound : Option Value → machine.Value → Type 0
IsValueFound found v = option_map value_as found ≡ Some v

-- It found what the observable holds at the end, and nothing if it holds nothing.
abbrev pub IsEnding : Content → Execution → Place → Option Value → Type 0
IsEnding t x p found = (v : machine.Value) → IsValueFound found v ↔ EndsWith t x p v

-- What a connective says of two facts.
abbrev pub IsJoined : Connective → Type 0 → Type 0 → Type 0
IsJoined And P Q = P × Q
IsJoined Or P Q = P ⊎ Q
IsJoined Implies P Q = P → Q

-- The execution ends so.
pub record EndsSo (t : Content) (x : Execution) (e : End) : Type 0 where
  pub values : EndsIn t x (values_as e.values.items)
  pub holds : IsTrue e.holds ↔ Satisfies t x t.condition
