-- What `space` says of the executions of a test, and how a space shows them: its clauses
-- `executions` and `refused` cite `ListsExecutions` and `IsSpaceFault`. Read `Events` and
-- `Executions` first.
use Rattle.std.specs.Prelude.{ℕ, ◌≡◌, ◌<◌, ◌≤◌, ◌↔◌, List, map, length, Contains}
use Rattle.std.specs.List.{AllPairs, AllZip, flat_map}
use Rattle.text_values.specs.declared.test.Test.{Test}
use Rattle.thread_runs.specs.declared.instruction.Program.{Program}
use Rattle.thread_runs.specs.declared.value.Value.{Value}
use Rattle.ppc_lowering.specs.Domain.{IsDomain, IsDomainRefusal, threads_of}
use Rattle.ppc_lowering.specs.Lowering.{IsProgram, AreNamesOf, test_names}
use Rattle.ppc_lowering.specs.declared.fault.EvalRefusal.{EvalRefusal}
use Rattle.ppc_lowering.specs.declared.fault.EvalRefusal.TheVariants.{TooManyEvents, TooManyValues, TooManyRuns, TooManyCandidates, AddressFault, TooManyCombinations}
use Rattle.candidate_spaces.specs.declared.fault.SpaceFault.{SpaceFault}
use Rattle.candidate_spaces.specs.declared.fault.SpaceFault.TheVariants.{Refused, OutOfMemory}
use Rattle.taints.specs.Chains.{Executed, IsAddr, IsData, IsCtrl, IsCtrlIsync, IsNeed, IsPairBefore}
use Rattle.thread_runs.specs.Runs.{Thread, Run, IsThreadRun}
use Rattle.candidates.specs.Executions.{Execution, IsExecution, AreExecutions, HasFaultedRun, IsDependency, IsStoreOrder, MayRead, events, loads, read_choices, orders, locations_from, over_runs}
use Rattle.store_orders.specs.Lists.{IsFiltered}
use Rattle.store_orders.specs.Events.{ReadsFrom}
use Rattle.bit_rows.specs.Pairs.{Union, IsAcyclic}
use Rattle.candidate_spaces.specs.Space.{Shown, shown_in}
use Rattle.candidate_spaces.specs.declared.candidate.Space.{Space}

-- the executions of the test: those of its threads over its domain
pub record AreTestExecutions (t : Test) (initial : List Value) (xs : List Execution) : Type 0 where
  pub program : Program
  pub values : List Value
  pub of_test : IsProgram t program
  pub starts : initial ≡ program.initial.items
  pub domain : IsDomain program values
  pub executions : AreExecutions initial (threads_of program) values xs

-- the pairs are just those of the dependency, in rising order
pub record AreDependencyPairs (R : Executed → ℕ → ℕ → Type 0) (initial : List Value) (x : Execution)
    (pairs : List (ℕ × ℕ)) : Type 0 where
  pub rising : AllPairs IsPairBefore pairs
  pub exact : (p : ℕ × ℕ) → Contains pairs p ↔ IsDependency R initial x.runs p.0 p.1

-- what is shown is this execution
pub record ShowsExecution (initial : List Value) (x : Execution) (e : Shown) : Type 0 where
  pub events : e.events ≡ events initial x.runs
  pub addr : AreDependencyPairs IsAddr initial x e.dependencies.addr_pairs
  pub «data» : AreDependencyPairs IsData initial x e.dependencies.data_pairs
  pub ctrl : AreDependencyPairs IsCtrl initial x e.dependencies.ctrl_pairs
  pub ctrlisync : AreDependencyPairs IsCtrlIsync initial x e.dependencies.ctrlisync_pairs
  pub reads_from : e.reads_from ≡ x.reads_from
  pub coherence : e.coherence ≡ flat_map (λ order. order) x.coherence
  pub registers : e.registers ≡ map (λ r. r.outcome.walk.state.registers) x.runs

-- the space lists just the executions of the test, in their order: at most 16,384, of which none
-- has a run that stopped at a fault; and it names the locations of the test
pub record ListsExecutions (t : Test) (s : Space) : Type 0 where
  pub initial : List Value
  pub all : List Execution
  pub executions : AreTestExecutions t initial all
  pub few : length all ≤ 16384
  pub sound : (x : Execution) → Contains all x → HasFaultedRun x → ⊥
  pub shown : AllZip (ShowsExecution initial) all (shown_in s)
  pub locations : AreNamesOf (test_names t) s.locations.items

-- there are more
pub record HasManyExecutions (t : Test) : Type 0 where
  pub initial : List Value
  pub all : List Execution
  pub executions : AreTestExecutions t initial all
  pub many : 16384 < length all

-- there are no more, and some one of them has a run that stopped at a fault
pub record HasFaultedExecution (t : Test) : Type 0 where
  pub initial : List Value
  pub all : List Execution
  pub executions : AreTestExecutions t initial all
  pub few : length all ≤ 16384
  pub execution : Execution
  pub there : Contains all execution
  pub fault : HasFaultedRun execution

-- the domain of the test is refused
abbrev pub HasNoDomain : Test → EvalRefusal → Type 0
HasNoDomain t r = (p : Program) × IsProgram t p × IsDomainRefusal p r

-- why a test has no space: its domain is refused, or its executions call for a refusal
abbrev pub IsSpaceRefusal : Test → EvalRefusal → Type 0
IsSpaceRefusal t TooManyEvents = HasNoDomain t TooManyEvents
IsSpaceRefusal t TooManyValues = HasNoDomain t TooManyValues
IsSpaceRefusal t TooManyRuns = HasNoDomain t TooManyRuns
IsSpaceRefusal t TooManyCombinations = HasNoDomain t TooManyCombinations
IsSpaceRefusal t TooManyCandidates = HasManyExecutions t
IsSpaceRefusal t AddressFault = HasFaultedExecution t

abbrev pub IsSpaceFault : Test → SpaceFault → Type 0
IsSpaceFault t (Refused r) = IsSpaceRefusal t r
IsSpaceFault t (OutOfMemory e) = Unit {0}

-- for given runs, executions are the product of the valid reads-from and the valid coherences
abbrev pub IsReadsFrom : List Value → List Run → List ℕ → Type 0
IsReadsFrom initial runs reads_from =
    AllZip (MayRead (events initial runs)) (loads (events initial runs)) reads_from
    × IsAcyclic (Union (IsDependency IsNeed initial runs)
    (ReadsFrom (loads (events initial runs)) reads_from))

abbrev pub IsCoherence : List Value → List Run → List (List ℕ) → Type 0
IsCoherence initial runs coherence =
    AllZip (IsStoreOrder (events initial runs)) (locations_from 0 initial) coherence

abbrev pub ChoosesApart : List Value → List Thread → List Value → List Run → Type 0
ChoosesApart initial threads V runs =
    (reads : List (List ℕ)) (coherences : List (List (List ℕ)))
    → AllZip (λ t r. IsThreadRun t (Contains V) r) threads runs
    → IsFiltered (IsReadsFrom initial runs) (read_choices (events initial runs)) reads
    → IsFiltered (IsCoherence initial runs) (orders (events initial runs) initial) coherences
    → IsFiltered (IsExecution initial threads (Contains V)) (over_runs initial runs)
    (flat_map (λ r. map (λ c. record { runs = runs; reads_from = r; coherence = c }) coherences)
    reads)
