-- The candidate executions of a test, as Alglave, Maranget and Tautschnig define them (Herding
-- Cats, TOPLAS 36(2), 2014): events in program order, dependencies, reads-from and coherence. The
-- test is given by the values that its locations hold at the start and by its threads; V is the
-- list of the values that its loads may take.
use Rattle.std.specs.Prelude.{ℕ, ◌≡◌, ◌+◌, List, [], ◌∷◌, ◌++◌, map, take, length, replicate, Some, slice_get, Contains, All, true}
use Rattle.std.specs.List.{flat_map, AllZip}
use Rattle.bit_rows.specs.Pairs.{Union, IsAcyclic}
use Rattle.thread_runs.specs.declared.value.Value.{Value}
use Rattle.thread_runs.specs.Runs.{Thread, Run, IsThreadRun, AreThreadRuns, executed}
use Rattle.taints.specs.Chains.{Executed, IsNeed, event_index}
use Rattle.store_orders.specs.Lists.{IsFiltered}
use Rattle.store_orders.specs.Events.{numbers, is_store_to, AreDistinct, thread_events, initial_stores, is_load, is_store, ReadsFrom}
use Rattle.store_orders.specs.declared.combination.Action.{Action}
use Rattle.store_orders.specs.declared.combination.Action.TheVariants.{Load, Store}
use Rattle.store_orders.specs.declared.combination.Event.{Event}

-- An execution: a run of each thread; reads-from, which gives for each load, in the order of the
-- events, the store that it reads; and coherence, which gives for each location its stores from the
-- first to the last. A store goes by its number
pub record Execution : Type 0 where
  pub runs : List Run
  pub reads_from : List ℕ
  pub coherence : List (List ℕ)

-- The events: the initial store of each location, and then what each thread does, in program order.
-- The number of an event is its index in this list
abbrev pub events_from : ℕ → List Run → List Event
events_from thread [] = []
events_from thread (r ∷ rs) =
    thread_events thread r.outcome.walk.events ++ events_from (thread + 1) rs

abbrev pub events : List Value → List Run → List Event
events initial runs = initial_stores 0 initial ++ events_from 0 runs

abbrev pub loads : List Event → List ℕ
loads es = numbers is_load 0 es

abbrev pub stores : List Event → List ℕ
stores es = numbers is_store 0 es

-- the stores of a location, the initial one among them
abbrev pub stores_at : List Event → ℕ → List ℕ
stores_at es location = numbers (λ e. is_store_to location e.action) 0 es

-- the locations by number, the first of these values being that of this one
abbrev pub locations_from : ℕ → List Value → List ℕ
locations_from location [] = []
locations_from location (v ∷ vs) = location ∷ locations_from (location + 1) vs

-- The number of the event of a step of the run of a thread, if the step is an event: the events of
-- the run are numbered on from those of the initial stores and of the threads before it
abbrev pub event_number : List Value → List Run → ℕ → Run → ℕ → ℕ
event_number initial runs thread run step =
    length (events initial (take thread runs)) + event_index (executed run.outcome.walk.steps) step

-- A dependency: two steps of the run of a thread are so related, and the events are theirs
pub record IsDependency (R : Executed → ℕ → ℕ → Type 0) (initial : List Value) (runs : List Run)
    (a b : ℕ) : Type 0 where
  pub thread : ℕ
  pub run : Run
  pub its_run : slice_get runs thread ≡ Some run
  pub first : ℕ
  pub second : ℕ
  pub related : R (executed run.outcome.walk.steps) first second
  pub from : a ≡ event_number initial runs thread run first
  pub to : b ≡ event_number initial runs thread run second

-- the event of this number does this
abbrev pub Does : List Event → ℕ → Action → Type 0
Does es n action = (e : Event) × (slice_get es n ≡ Some e) × (e.action ≡ action)

-- the load reads the store: both are of one location and one value
abbrev pub MayRead : List Event → ℕ → ℕ → Type 0
MayRead es load store =
    (location : ℕ) × (value : Value) × Does es load (Load location value)
    × Does es store (Store location value)

-- the list is an order of the stores of a location: the initial store, which has the number of the
-- location, is the first, and each of the stores stands in it just once
pub record IsStoreOrder (es : List Event) (location : ℕ) (order : List ℕ) : Type 0 where
  pub initial : slice_get order 0 ≡ Some location
  pub stores : All (Contains (stores_at es location)) order
  pub each : length order ≡ length (stores_at es location)
  pub once : AreDistinct order

-- What makes an execution: a run of each thread, whose loads take values with the property; each
-- load reads a store of its location and value; the stores of each location are ordered, the
-- initial one first; and reads-from together with need has no cycle, so that no value comes out of
-- thin air
pub record IsExecution (initial : List Value) (threads : List Thread) (P : Value → Type 0)
    (x : Execution) : Type 0 where
  pub runs : AllZip (λ t r. IsThreadRun t P r) threads x.runs
  pub reads : AllZip (MayRead (events initial x.runs)) (loads (events initial x.runs)) x.reads_from
  pub orders : AllZip (IsStoreOrder (events initial x.runs)) (locations_from 0 initial) x.coherence
  pub acyclic : IsAcyclic (Union (IsDependency IsNeed initial x.runs)
      (ReadsFrom (loads (events initial x.runs)) x.reads_from))

-- All that can be put together: each choice of a run for each thread, of a store for each load, and
-- of as many stores for each location as it has, in lexicographic order
abbrev pub product : {X : Type 0} → List (List X) → List (List X)
product [] = [] ∷ []
product {X} (xs ∷ xss) = flat_map (λ (x : X). map (λ (rest : List X). x ∷ rest) (product xss)) xs

abbrev pub read_choices : List Event → List (List ℕ)
read_choices es = product (map (λ load. stores es) (loads es))

abbrev pub order_choices : List Event → ℕ → List (List ℕ)
order_choices es location =
    product (replicate (length (stores_at es location)) (stores_at es location))

abbrev pub orders : List Event → List Value → List (List (List ℕ))
orders es initial = product (map (order_choices es) (locations_from 0 initial))

abbrev pub over_runs : List Value → List Run → List Execution
over_runs initial runs =
    flat_map
    (λ reads_from. map
    (λ coherence. record { runs = runs; reads_from = reads_from; coherence = coherence })
    (orders (events initial runs) initial))
    (read_choices (events initial runs))

-- The list has just the executions of the threads over the values, in that order
pub record AreExecutions (initial : List Value) (threads : List Thread) (V : List Value)
    (xs : List Execution) : Type 0 where
  pub runs : List (List Run)
  pub of_threads : AllZip (λ t rs. AreThreadRuns t (Contains V) rs) threads runs
  pub executions : IsFiltered (IsExecution initial threads (Contains V))
      (flat_map (over_runs initial) (product runs)) xs

-- some run of it stopped at a fault
abbrev pub HasFaultedRun : Execution → Type 0
HasFaultedRun x = (r : Run) × Contains x.runs r × (r.outcome.faulted ≡ true)
