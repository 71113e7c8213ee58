-- Executions whose loads have any values, and the law that the domain loses none of them.
use Rattle.std.specs.Prelude.{ℕ, ◌≡◌, ◌<◌, List, [], ◌∷◌, Some, IsTrue, Contains}
use Rattle.thread_runs.specs.declared.value.Value.{Value}
use Rattle.thread_runs.specs.declared.value.Value.TheVariants.{NoValue}
use Rattle.thread_runs.specs.Machine.{register, is_load}
use Rattle.thread_runs.specs.Runs.{Thread, RunOutcome, InDomain, run_of, executed, loaded_at}
use Rattle.taints.specs.Chains.{Executed, Register, IsNeed, IsStoredRegister}
use Rattle.taints.specs.Law.{state_at}

-- where a load's value comes from: an initial store, or the store at an index of a thread's run
pub data LoadSource : Type 0 where
  Initial : LoadSource
  From : (thread index : ℕ) → LoadSource

-- a thread with its run
pub record ThreadWithRun : Type 0 where
  pub thread : Thread
  pub values : List Value
  pub outcome : RunOutcome

-- a load: its thread, its index in it, and its source
pub record NumberedLoad : Type 0 where
  pub thread : ℕ
  pub index : ℕ
  pub source : LoadSource

-- the threads with their runs, and a number of loads
pub record FreeExecution : Type 0 where
  pub ran : ℕ → ThreadWithRun
  pub count : ℕ
  pub load : ℕ → NumberedLoad

abbrev pub executed_by : FreeExecution → ℕ → Executed
executed_by e t = executed (e.ran t).outcome.walk.steps

abbrev pub loaded_by : FreeExecution → ℕ → ℕ → Value
loaded_by e t = loaded_at (e.ran t).outcome.walk.steps

-- the value that a load reads
abbrev pub loaded_value : FreeExecution → ℕ → Value
loaded_value e l = loaded_by e (e.load l).thread (e.load l).index

-- the store at an index of a thread's run stores the value
abbrev pub IsStoredBy : FreeExecution → ℕ → ℕ → Value → Type 0
IsStoredBy e t j v =
    (q : ℕ) × IsStoredRegister (executed_by e t j) (Register q)
    × (v ≡ register (state_at (executed_by e t) (loaded_by e t) (e.ran t).thread.first j) q)

abbrev pub IsReadValue : FreeExecution → List Value → List Thread → LoadSource → Value → Type 0
IsReadValue e initial threads Initial v = Contains initial v
IsReadValue e initial threads (From t j) v = Contains threads (e.ran t).thread × IsStoredBy e t j v

-- the second load reads from a store that needs the first
abbrev pub LoadNeedsLoad : FreeExecution → ℕ → ℕ → Type 0
LoadNeedsLoad e m l =
    (j : ℕ) × ((e.load l).source ≡ From (e.load m).thread j)
    × IsNeed (executed_by e (e.load m).thread) (e.load m).index j

-- an event of the graph of `rf` and `need`: a load by its number, a store by its thread and index
pub data Node : Type 0 where
  LoadNode : ℕ → Node
  StoreNode : (thread index : ℕ) → Node

-- a store leads to the loads that read from it, and a load to the stores that need it
abbrev pub IsEdge : FreeExecution → Node → Node → Type 0
IsEdge e (StoreNode t j) (LoadNode l) = (e.load l).source ≡ From t j
IsEdge e (LoadNode m) (StoreNode t j) =
    ((e.load m).thread ≡ t) × IsNeed (executed_by e t) (e.load m).index j
IsEdge e _ _ = ⊥

abbrev pub EdgePath : {X : Type 0} → (X → X → Type 0) → X → List X → X → Type 0
EdgePath R a [] b = R a b
EdgePath R a (c ∷ cs) b = R a c × EdgePath R c cs b

-- what must hold of an execution, its loads having any values
pub record IsFreeExecution (initial : List Value) (threads : List Thread) (e : FreeExecution)
    : Type 0 where
  pub runs : (t : ℕ) → Contains threads (e.ran t).thread
      → run_of (e.ran t).thread.lines (e.ran t).thread.first (e.ran t).values
      ≡ Some (e.ran t).outcome
  pub numbered : (t i : ℕ) → IsTrue (is_load (executed_by e t i))
      → (m : ℕ) × (m < e.count) × ((e.load m).thread ≡ t) × ((e.load m).index ≡ i)
  pub proper : (l : ℕ) → l < e.count → loaded_value e l ≡ NoValue → ⊥
  pub reads : (l : ℕ) → l < e.count
      → IsReadValue e initial threads (e.load l).source (loaded_value e l)
  pub acyclic : (x : Node) (through : List Node) → EdgePath (IsEdge e) x through x → ⊥
  pub some_initial : (v : Value) × Contains initial v

-- each value that is read is in the domain, after as many rounds as there are loads
abbrev pub LosesNothing : List Value → List Thread → FreeExecution → Type 0
LosesNothing initial threads e =
    IsFreeExecution initial threads e → (l : ℕ) → l < e.count
    → InDomain initial threads e.count (loaded_value e l)
