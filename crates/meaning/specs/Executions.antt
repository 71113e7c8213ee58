-- The candidate executions of a test, as Alglave, Maranget and Tautschnig define them (Herding
-- Cats, TOPLAS 36(2), 2014): events, program order, dependencies, reads-from and coherence. That
-- loads take values of the domain, and that none comes out of thin air, is our own. Read next:
-- Predefined.
use Rattle.std.specs.Prelude.{ℕ, suc, ◌≡◌, ◌<◌, List, [], ◌∷◌, ◌++◌, zip, length, IsTrue, Some, slice_get, unwrap_or, option_map, Contains, if◌then◌else◌}
use Rattle.std.specs.List.{AllZip}
use Rattle.text_values.specs.declared.test.Place.TheVariants as observables
use Rattle.text_values.specs.declared.instruction.Fence as kinds
use Rattle.text_values.specs.declared.instruction.Instruction.TheVariants as texts
use Rattle.text_values.specs.TestValue.{Content}
use Rattle.meaning.specs.Sets.{Set, Relation, Union, IsAcyclic, IsListOf}
use Rattle.meaning.specs.Names.{Name, locations}
use Rattle.meaning.specs.Machine.{Value, Address, address_of, is_load, stored_values}
use Rattle.meaning.specs.Runs.{Instance, Run, IsRun, initial_value}
use Rattle.meaning.specs.Domain.{InDomain}
use Rattle.meaning.specs.Dependencies.{Instructions, IsNeed}

-- An event: the initial store of a location, or what the instruction at that index of the run of a
-- thread does.
pub data Event : Type 0 where
  Initial : (location : Name) → Event
  Does : (thread index : ℕ) → Event

-- What is to be an execution: a run of each thread; for each load, in the order of the threads and
-- of their runs, the store that it reads; and for each location the order of its stores.
pub record Execution : Type 0 where
  pub runs : List Run
  pub reads_from : List Event
  pub coherence : List (List Event)

-- What an event does.
pub data Action : Type 0 where
  Loads : (location : Name) (value : Value) → Action
  Stores : (location : Name) (value : Value) → Action
  Fences : (kind : kinds.Fence) → Action

-- what a thread executes
abbrev pub instances_of : Execution → ℕ → List Instance
instances_of x thread = unwrap_or (option_map (λ r. r.instances) (slice_get x.runs thread)) []

-- the instructions that a thread executes; past the end stands one that reads and writes nothing
abbrev pub instructions_of : Execution → ℕ → Instructions
instructions_of x thread index =
    unwrap_or (option_map (λ i. i.instruction) (slice_get (instances_of x thread) index))
    (texts.Branch [])

-- The instance does this.
abbrev pub IsActionOf : Instance → Action → Type 0
IsActionOf i (Loads l v) =
    IsTrue (is_load i.instruction) × (address_of i.instruction i.before ≡ Address l)
    × (v ≡ i.loaded)
IsActionOf i (Stores l v) =
    (address_of i.instruction i.before ≡ Address l)
    × Contains (stored_values i.instruction i.before) v
IsActionOf i (Fences f) = i.instruction ≡ texts.Fence f

-- The event does this.
abbrev pub HasAction : Content → Execution → Event → Action → Type 0
HasAction t x (Initial l) a =
    Contains (locations t) l × (a ≡ Stores l (initial_value t (observables.Location l)))
HasAction t x (Does thread index) a =
    (i : Instance) × (slice_get (instances_of x thread) index ≡ Some i) × IsActionOf i a

-- The events of an execution are the initial stores, and the loads, stores and fences of its runs.
abbrev pub IsEvent : Content → Execution → Set Event
IsEvent t x e = (a : Action) × HasAction t x e a

-- The event is a store of the location.
abbrev pub IsStoreOf : Content → Execution → Name → Set Event
IsStoreOf t x l e = (v : Value) × HasAction t x e (Stores l v)

-- the loads among the instances of a thread, the first of which has that index
abbrev pub loads_from : ℕ → ℕ → List Instance → List Event
loads_from thread index [] = []
loads_from thread index (i ∷ rest) =
    if is_load i.instruction then Does thread index ∷ loads_from thread (suc index) rest
    else loads_from thread (suc index) rest

-- the loads of runs, the first of which is that of this thread
abbrev pub loads_in : ℕ → List Run → List Event
loads_in thread [] = []
loads_in thread (r ∷ rs) = loads_from thread 0 r.instances ++ loads_in (suc thread) rs

-- `po`: events of one thread, the first before the second. Initial stores have no thread.
abbrev pub ProgramOrder : Content → Execution → Relation Event
ProgramOrder t x (Does u i) (Does v j) =
    IsEvent t x (Does u i) × IsEvent t x (Does v j) × (u ≡ v) × (i < j)
ProgramOrder t x _ _ = ⊥

-- `rf`: a store, and a load that reads it
abbrev pub ReadsFrom : Execution → Relation Event
ReadsFrom x a b = Contains (zip x.reads_from (loads_in 0 x.runs)) (a, b)

-- `co`: two stores of one location, the first before the second
abbrev pub Coherence : Execution → Relation Event
Coherence x a b =
    (order : List Event) × Contains x.coherence order × (i : ℕ) × (j : ℕ) × (i < j)
    × (slice_get order i ≡ Some a) × (slice_get order j ≡ Some b)

-- A dependency relates two instructions of one thread.
abbrev pub Dependency : (Instructions → ℕ → ℕ → Type 0) → Execution → Relation Event
Dependency R x (Does u i) (Does v j) = (u ≡ v) × R (instructions_of x u) i j
Dependency R x _ _ = ⊥

-- The load may read the store: both are of one location and one value.
abbrev pub MayRead : Content → Execution → Relation Event
MayRead t x load store =
    (l : Name) × (v : Value) × HasAction t x load (Loads l v) × HasAction t x store (Stores l v)

-- The list is an order of the stores of a location, the initial one first.
abbrev pub IsOrder : Content → Execution → Name → List Event → Type 0
IsOrder t x l order = IsListOf (IsStoreOf t x l) order × (slice_get order 0 ≡ Some (Initial l))

-- There is a run for each thread, and it is one of the thread over the domain.
pub record AreRuns (t : Content) (runs : List Run) : Type 0 where
  pub threads : length runs ≡ length t.threads
  pub each : (thread : ℕ) (r : Run) → slice_get runs thread ≡ Some r
      → IsRun t (InDomain t) thread r

-- Two events are related by need or by reads-from.
abbrev pub NeedOrReads : Execution → Relation Event
NeedOrReads x = Union (Dependency IsNeed x) (ReadsFrom x)

-- What makes an execution: a run of each thread; for each load a store that it may read; for each
-- location an order of its stores; and no value comes out of thin air.
pub record IsExecution (t : Content) (x : Execution) : Type 0 where
  pub runs : AreRuns t x.runs
  pub reads : AllZip (MayRead t x) (loads_in 0 x.runs) x.reads_from
  pub orders : AllZip (IsOrder t x) (locations t) x.coherence
  pub acyclic : IsAcyclic (NeedOrReads x)
