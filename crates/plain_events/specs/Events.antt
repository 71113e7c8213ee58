-- What the events and actions of the code are in the definitions, and what the code finds of them.
use Rattle.std.specs.Prelude.{ℕ, ◌≡◌, ◌↔◌, ◌<◌, List, [], length, Option, Some, option_map, slice_get, Contains}
use Rattle.text_values.specs.TestValue.{Content}
use Rattle.meaning.specs.Sets.{Set}
use Rattle.meaning.specs.Names.{Name}
use Rattle.meaning.specs.Machine.{Value}
use Rattle.meaning.specs.Runs.{Instance, Run}
use Rattle.meaning.specs.Executions as executions
use Rattle.meaning.specs.Executions.{Execution, IsActionOf, HasAction, instances_of}
use Rattle.plain_machine.specs.Values.{value_as}
use Rattle.plain_events.specs.declared.event.Event.{Event}
use Rattle.plain_events.specs.declared.event.Event.TheVariants.{Initial, Does}
use Rattle.plain_events.specs.declared.event.Action.{Action}
use Rattle.plain_events.specs.declared.event.Action.TheVariants.{Loads, Stores, Fences}

abbrev pub event_as : Event → executions.Event
event_as (Initial l) = executions.Initial l.now
event_as (Does thread index) = executions.Does thread index

abbrev pub action_as : Action → executions.Action
action_as (Loads l v) = executions.Loads l.now (value_as v)
action_as (Stores l v) = executions.Stores l.now (value_as v)
action_as (Fences f) = executions.Fences f

-- an execution of these runs: what its events do depends on nothing else of it
abbrev pub of_runs : List Run → Execution
of_runs runs = record { runs = runs; reads_from = []; coherence = [] }

-- The code found the action.
abbrev pub IsFound : Option Action → Set executions.Action
IsFound found a = option_map action_as found ≡ Some a

-- The code found what the instance does, and nothing if it is no event.
abbrev pub IsActionOfInstance : Instance → Option Action → Type 0
IsActionOfInstance i found = (a : executions.Action) → IsFound found a ↔ IsActionOf i a

-- It found what the instance at the index does, likewise.
abbrev pub IsActionAt : List Instance → ℕ → Option Action → Type 0
IsActionAt instances index found =
    (a : executions.Action)
    → IsFound found a
    ↔ ((i : Instance) × (slice_get instances index ≡ Some i) × IsActionOf i a)

-- It found what the event does, and nothing if it is no event of these runs.
abbrev pub IsActionOfEvent : Content → List Run → executions.Event → Option Action → Type 0
IsActionOfEvent t runs e found =
    (a : executions.Action) → IsFound found a ↔ HasAction t (of_runs runs) e a

-- It is the initial store of one of the locations, or what one of the runs executes.
abbrev pub IsNode : List Name → List Run → Set executions.Event
IsNode names runs (executions.Initial l) = Contains names l
IsNode names runs (executions.Does thread index) =
    index < length (instances_of (of_runs runs) thread)

-- It is what the thread executes at an index below this.
abbrev pub DoesBelow : ℕ → ℕ → Set executions.Event
DoesBelow thread n e = (index : ℕ) × (index < n) × (executions.Does thread index ≡ e)

-- The action is a store to the location.
abbrev pub IsStoreAction : Name → Set executions.Action
IsStoreAction l a = (v : Value) × (a ≡ executions.Stores l v)

-- The code found a store to the location.
abbrev pub IsStoreFound : Name → Option Action → Type 0
IsStoreFound l found = (v : Value) × IsFound found (executions.Stores l v)

-- The actions are a load and a store of one location and one value.
abbrev pub IsReadAction : executions.Action → executions.Action → Type 0
IsReadAction load store =
    (l : Name) × (v : Value) × (load ≡ executions.Loads l v) × (store ≡ executions.Stores l v)

-- The code found such a load and such a store.
abbrev pub IsReadFound : Option Action → Option Action → Type 0
IsReadFound load store =
    (l : Name) × (v : Value) × IsFound load (executions.Loads l v)
    × IsFound store (executions.Stores l v)
