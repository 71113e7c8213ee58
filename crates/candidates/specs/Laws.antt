-- Laws of the executions of a test, each the contract of a call of `laws`. Read `Executions` and
-- `Listed` first.
use Rattle.std.specs.Prelude.{ℕ, Some, true, ◌≡◌, ◌↔◌, List, [], length, slice_get, Contains}
use Rattle.std.specs.List.{AllZip}
use Rattle.text_values.specs.declared.test.Test.{Test}
use Rattle.thread_runs.specs.declared.instruction.Program.{Program}
use Rattle.thread_runs.specs.declared.value.Value.{Value}
use Rattle.ppc_lowering.specs.Domain.{IsDomainAt, load_total, threads_of}
use Rattle.ppc_lowering.specs.Lowering.{IsProgram, IsTestDomain}
use Rattle.ppc_lowering.specs.declared.fault.EvalRefusal.{EvalRefusal}
use Rattle.thread_runs.specs.ValueSet.{IsProperValue}
use Rattle.thread_runs.specs.Runs.{Thread, Run, IsThreadRun, run_of, executed}
use Rattle.candidates.specs.Executions.{Execution, IsExecution, AreExecutions, Does, events, stores, over_runs, event_number}
use Rattle.store_orders.specs.Lists.{IsFiltered}
use Rattle.taints.specs.Chains.{is_event}
use Rattle.store_orders.specs.Events.{thread_events, CannotRead, IsKind}
use Rattle.store_orders.specs.declared.combination.Event.{Event}
use Rattle.candidate_spaces.specs.Space.{shown_by, ShowTheSame}
use Rattle.store_orders.specs.declared.combination.Action.TheVariants.{Store}
use Rattle.candidate_spaces.specs.declared.execution.Execution as shown
use Rattle.candidate_spaces.specs.declared.candidate.Space.{Space}
use Rattle.candidates.specs.Listed.{AreTestExecutions, ShowsExecution, ListsExecutions, HasNoDomain, IsSpaceRefusal}

-- the law of the domain: what is shown, where the loads of the execution take any values whatever,
-- is an execution over the values of the last round, also of a test that is refused for a bound
abbrev pub LosesNoValue : Test → shown.Execution → Type 0
LosesNoValue t e =
    (p : Program) (V : List Value) (x : Execution) → IsProgram t p → IsDomainAt p (load_total p) V
    → ShowsExecution p.initial.items x (shown_by e)
    → IsExecution p.initial.items (threads_of p) IsProperValue x
    → IsExecution p.initial.items (threads_of p) (Contains V) x

-- a test has one list of executions
abbrev pub HasOneList : List Value → List Thread → List Value → Type 0
HasOneList initial threads V =
    (xs ys : List Execution) → AreExecutions initial threads V xs
    → AreExecutions initial threads V ys → xs ≡ ys

-- runs with a load that no store serves are in no execution
abbrev pub LosesNoExecution : List Value → List Thread → List Value → List Run → Type 0
LosesNoExecution initial threads V runs =
    AllZip (λ t r. IsThreadRun t (Contains V) r) threads runs → CannotRead (events initial runs)
    → IsFiltered (IsExecution initial threads (Contains V)) (over_runs initial runs) []

-- no event of a run of a thread is left out of the events of an execution
abbrev pub DropsNoEvent : Thread → Run → Type 0
DropsNoEvent t r =
    (thread : ℕ) → run_of t.lines t.first r.values ≡ Some r.outcome
    → length (thread_events thread r.outcome.walk.events) ≡ length r.outcome.walk.events

-- at the number by which a dependency names a step of a run stands the event of that step
abbrev pub NumbersItsSteps : List Value → List Thread → List Run → Type 0
NumbersItsSteps initial threads runs =
    AllZip (λ t r. IsThreadRun t IsProperValue r) threads runs
    → (thread step : ℕ) (r : Run) → slice_get runs thread ≡ Some r
    → is_event (executed r.outcome.walk.steps step) ≡ true
    → (e : Event)
    × (slice_get (events initial runs) (event_number initial runs thread r step) ≡ Some e)
    × IsKind thread (executed r.outcome.walk.steps step) e

-- a store of an execution stands in the coherence of its location
pub record IsCovered (initial : List Value) (x : Execution) (store : ℕ) : Type 0 where
  pub location : ℕ
  pub value : Value
  pub stores : Does (events initial x.runs) store (Store location value)
  pub order : List ℕ
  pub coherence : slice_get x.coherence location ≡ Some order
  pub there : Contains order store

-- each does: an execution makes no store but at a location of the test
abbrev pub CoversEachStore : Test → Type 0
CoversEachStore t =
    (p : Program) (V : List Value) (x : Execution) → IsProgram t p → IsDomainAt p (load_total p) V
    → IsExecution p.initial.items (threads_of p) IsProperValue x
    → (store : ℕ) → Contains (stores (events p.initial.items x.runs)) store
    → IsCovered p.initial.items x store

-- the domain of a test is one list, or it is refused for one reason: never both
pub record HasOneDomainOrRefusal (t : Test) : Type 0 where
  pub one_domain : (V W : List Value) → IsTestDomain t V → IsTestDomain t W → V ≡ W
  pub one_refusal : (q r : EvalRefusal) → HasNoDomain t q → HasNoDomain t r → q ≡ r
  pub domain_or_refused : (V : List Value) (r : EvalRefusal) → IsTestDomain t V → HasNoDomain t r
      → ⊥

-- a test has one outcome: a space or a refusal, and one refusal at most
pub record HasOneSpaceOrRefusal (t : Test) : Type 0 where
  pub listed_or_refused :
      (s : Space) (r : EvalRefusal) → ListsExecutions t s → IsSpaceRefusal t r → ⊥
  pub one_refusal : (q r : EvalRefusal) → IsSpaceRefusal t q → IsSpaceRefusal t r → q ≡ r

-- two spaces of one test show the same
abbrev pub ShowOneTest : Test → Space → Space → Type 0
ShowOneTest t r s = ListsExecutions t r → ListsExecutions t s → ShowTheSame r s

-- the list of the executions of a test has just those whose loads take any values whatever
abbrev pub HasAllExecutions : Test → Type 0
HasAllExecutions t =
    (initial : List Value) (xs : List Execution) (h : AreTestExecutions t initial xs)
    (x : Execution)
    → Contains xs x ↔ IsExecution initial (threads_of h.program) IsProperValue x
