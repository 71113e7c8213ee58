-- The events of a test, by number and by name. Read next: Executions.
use Rattle.std.specs.Prelude.{ℕ, suc, ◌≡◌, ◌<◌, List, [], ◌∷◌, ◌++◌, map, length, IsTrue, if◌then◌else◌, Option, Some, None, slice_get, slice_index_or}
use Rattle.std.specs.List.{AllZip}
use Rattle.text_values.specs.declared.instruction.Fence as kinds
use Rattle.text_values.specs.TestValue.{Content}
use Rattle.thread_runs.specs.declared.value.Value as numbered_value
use Rattle.thread_runs.specs.Runs as by_number
use Rattle.thread_runs.specs.Runs.{executed}
use Rattle.taints.specs.Chains as chains
use Rattle.candidates.specs.Executions as candidates
use Rattle.candidates.specs.Executions.{event_number}
use Rattle.store_orders.specs.declared.combination.Action as numbered_action
use Rattle.store_orders.specs.declared.combination.Action.TheVariants as numbered
use Rattle.store_orders.specs.declared.combination.Event as numbered_event
use Rattle.meaning.specs.Names.{Name, locations}
use Rattle.meaning.specs.Machine.{Value}
use Rattle.meaning.specs.Runs.{Instance, Run}
use Rattle.meaning.specs.Dependencies.{is_event}
use Rattle.meaning.specs.Executions.{Event, Initial, Does, Execution, Action, Loads, Stores, Fences, HasAction, IsEvent, loads_in}
use Rattle.meaning_executions.specs.Values.{IsSameValue}

-- the events among the instances of a thread, the first of which has that index
abbrev pub events_from : ℕ → ℕ → List Instance → List Event
events_from thread index [] = []
events_from thread index (i ∷ rest) =
    if is_event i.instruction then Does thread index ∷ events_from thread (suc index) rest
    else events_from thread (suc index) rest

-- the events of runs, the first of which is that of this thread
abbrev pub events_in : ℕ → List Run → List Event
events_in thread [] = []
events_in thread (r ∷ rs) = events_from thread 0 r.instances ++ events_in (suc thread) rs

-- the events by name, in the order of their numbers: the initial stores, and then what each thread
-- does
abbrev pub named_events : Content → List Run → List Event
named_events t runs = map Initial (locations t) ++ events_in 0 runs

-- The event has that number.
abbrev pub IsNumbered : List Event → ℕ → Event → Type 0
IsNumbered events n e = slice_get events n ≡ Some e

-- The two are the same action, where the list has the names of the locations in their order.
pub data IsSameAction (names : List Name) : numbered_action.Action → Action → Type 0 where
  loads : (k : ℕ) {v : numbered_value.Value} {w : Value} → k < length names
      → IsSameValue names v w
      → IsSameAction names (numbered.Load k v) (Loads (slice_index_or names k []) w)
  stores : (k : ℕ) {v : numbered_value.Value} {w : Value} → k < length names
      → IsSameValue names v w
      → IsSameAction names (numbered.Store k v) (Stores (slice_index_or names k []) w)
  fences : (f : kinds.Fence) → IsSameAction names (numbered.Fence f) (Fences f)

-- the thread of an event; an initial store has none
abbrev pub thread_of_event : Event → Option ℕ
thread_of_event (Initial l) = None
thread_of_event (Does thread index) = Some thread

-- The two are the same event: they are of one thread, and do the same.
pub record IsSameEvent (t : Content) (x : Execution) (n : numbered_event.Event) (e : Event)
    : Type 0 where
  pub thread : n.thread ≡ thread_of_event e
  pub action : Action
  pub does : HasAction t x e action
  pub same : IsSameAction (locations t) n.action action

-- The events by number and by name are the same, one by one, and the loads stand in the same order.
-- Each event by name has one number; an initial store has that of its location.
pub record AreSameEvents (t : Content) (x : Execution) (ns : List numbered_event.Event)
    (es : List Event) : Type 0 where
  pub alike : AllZip (IsSameEvent t x) ns es
  pub loads : AllZip (IsNumbered es) (candidates.loads ns) (loads_in 0 x.runs)
  pub once : (m n : ℕ) (e : Event) → IsNumbered es m e → IsNumbered es n e → m ≡ n
  pub complete : (e : Event) → IsEvent t x e → (n : ℕ) × IsNumbered es n e
  pub firsts : (k : ℕ) (l : Name) → slice_get (locations t) k ≡ Some l
      → IsNumbered es k (Initial l)

-- An instruction that is an event has the number that dependencies give it.
abbrev pub HaveTheirNumbers : List numbered_value.Value → List by_number.Run → List Event → Type 0
HaveTheirNumbers initial rs es =
    (thread : ℕ) (r : by_number.Run) → slice_get rs thread ≡ Some r → (step : ℕ)
    → IsTrue (chains.is_event (executed r.outcome.walk.steps step))
    → IsNumbered es (event_number initial rs thread r step) (Does thread step)
