-- Which instruction each event of an execution comes from: `instructions_of` cites
-- `AreInstructions`. Each thread is run again with the values that its loads read in the execution.
use Rattle.std.specs.Prelude.{Vec, ℕ, ◌≡◌, ◌⊎◌, ◌+◌, ◌++◌, Bool, true, false, List, [], Option, Some, None, if◌then◌else◌, nat_eq, length, slice_get, vec_len}
use Rattle.std.specs.List.{All, Contains, filter_map}
use Rattle.std.specs.declared.alloc.Global.{Global}
use Rattle.text_values.specs.declared.test.Test.{Test}
use Rattle.ppc_lowering.specs.Lowering.{IsProgram, IsTestDomain, IsTestDomainFault, ShowsTestRuns}
use Rattle.ppc_lowering.specs.declared.fault.DomainFault.TheVariants as faults
use Rattle.ppc_lowering.specs.declared.fault.EvalRefusal.{EvalRefusal}
use Rattle.store_orders.specs.declared.combination.Action.{Action}
use Rattle.store_orders.specs.declared.combination.Action.TheVariants as actions
use Rattle.store_orders.specs.declared.combination.Event.{Event}
use Rattle.thread_runs.specs.AllRuns.{thread_of}
use Rattle.thread_runs.specs.Runs.{Thread, RunOutcome, run_of}
use Rattle.thread_runs.specs.declared.instruction.Instruction.{Instruction}
use Rattle.thread_runs.specs.declared.instruction.Instruction.TheVariants as instructions
use Rattle.thread_runs.specs.declared.instruction.Program.{Program}
use Rattle.thread_runs.specs.declared.instruction.RunStep.{RunStep}
use Rattle.thread_runs.specs.declared.run.Run as code_run
use Rattle.thread_runs.specs.declared.value.Value.{Value}

-- ---- the events of a run

-- accesses and fences make an event, and other instructions none
abbrev pub makes_event : Instruction → Bool
makes_event (instructions.Load target base) = true
makes_event (instructions.LoadIndexed target base index) = true
makes_event (instructions.Store source base) = true
makes_event (instructions.StoreIndexed source base index) = true
makes_event (instructions.Fence fence) = true
makes_event instruction = false

abbrev pub made_by : RunStep → Option (Option Instruction)
made_by step = if makes_event step.instruction then Some (Some step.instruction) else None

-- the instructions of the events of a run, in program order
abbrev pub made_in : List RunStep → List (Option Instruction)
made_in steps = filter_map made_by steps

-- ---- what the loads of a thread read

abbrev pub read_by : Action → Option Value
read_by (actions.Load location value) = Some value
read_by (actions.Store location value) = None
read_by (actions.Fence fence) = None

abbrev pub is_of : Option ℕ → ℕ → Bool
is_of None thread = false
is_of (Some other) thread = nat_eq other thread

abbrev pub event_value_read : ℕ → Event → Option Value
event_value_read thread e = if is_of e.thread thread then read_by e.action else None

-- in program order
abbrev pub values_read : ℕ → List Event → List Value
values_read thread events = filter_map (event_value_read thread) events

-- ---- a thread, run with these values

-- the run, and its steps
abbrev pub Executes : Thread → List Value → List RunStep → Type 0
Executes t values steps =
    (o : RunOutcome) × (run_of t.lines t.first values ≡ Some o) × (steps ≡ o.walk.steps)

-- it has no run with these values, if they are of the domain
abbrev pub HasNoRun : Thread → List Value → List Value → Type 0
HasNoRun t domain values =
    (o : RunOutcome) → All (Contains domain) values → run_of t.lines t.first values ≡ Some o → ⊥

-- the instructions of its events
abbrev pub AreMade : Thread → List Value → List Value → List (Option Instruction) → Type 0
AreMade t domain values xs =
    ((steps : List RunStep) × Executes t values steps × (xs ≡ made_in steps))
    ⊎ (HasNoRun t domain values × (xs ≡ []))

-- of the thread of that number of a test
abbrev pub AreMadeOn : Test → ℕ → List Value → List Value → List (Option Instruction) → Type 0
AreMadeOn test n domain values xs =
    (p : Program) × IsProgram test p × AreMade (thread_of p n) domain values xs

-- of the threads below a number, one after another
pub data AreMadeBelow (test : Test) (domain : List Value) (events : List Event)
    : ℕ → List (Option Instruction) → Type 0 where
  NoThread : AreMadeBelow test domain events 0 []
  OneThread : (n : ℕ) (xs ys : List (Option Instruction)) → AreMadeBelow test domain events n xs
      → AreMadeOn test n domain (values_read n events) ys
      → AreMadeBelow test domain events (n + 1) (xs ++ ys)

-- ---- the whole

-- an initial store comes from no instruction
abbrev pub is_initial : Option ℕ → Bool
is_initial None = true
is_initial (Some thread) = false

abbrev pub not_made : Event → Option (Option Instruction)
not_made e = if is_initial e.thread then Some None else None

-- the instructions of the events of all threads over the domain of the test; a test whose domain is
-- refused has none
abbrev pub AreMadeIn : Test → List Event → List (Option Instruction) → Type 0
AreMadeIn test events xs =
    ((domain : List Value) × IsTestDomain test domain
    × AreMadeBelow test domain events (vec_len test.threads) xs)
    ⊎ ((r : EvalRefusal) × IsTestDomainFault test (faults.Refused r) × (xs ≡ []))

-- for each event its instruction: first the initial stores, and then the events of the threads
pub record AreInstructions (test : Test) (events : List Event) (xs : List (Option Instruction))
    : Type 0 where
  pub made : List (Option Instruction)
  pub of_threads : AreMadeIn test events made
  pub whole : xs ≡ filter_map not_made events ++ made

-- ---- what the code keeps: the runs of each thread

pub record AreRunsOver (test : Test) (domain : List Value) (count : ℕ)
    (threads : List (Vec code_run.Run Global)) : Type 0 where
  pub all : length threads ≡ count
  pub each : (n : ℕ) (runs : Vec code_run.Run Global) → slice_get threads n ≡ Some runs
      → ShowsTestRuns test n domain runs.items

abbrev pub AreAllRuns : Test → List (Vec code_run.Run Global) → Type 0
AreAllRuns test threads =
    ((domain : List Value) × IsTestDomain test domain
    × AreRunsOver test domain (vec_len test.threads) threads)
    ⊎ ((r : EvalRefusal) × IsTestDomainFault test (faults.Refused r) × (threads ≡ []))

-- this run reads these values, or none does
abbrev pub RunReads : List Value → code_run.Run → Type 0
RunReads values run = run.values.items ≡ values

abbrev pub IsReader : List code_run.Run → List Value → Option code_run.Run → Type 0
IsReader runs values None = All (λ run. RunReads values run → ⊥) runs
IsReader runs values (Some run) = Contains runs run × RunReads values run

abbrev pub made_by_run : Option code_run.Run → List (Option Instruction)
made_by_run None = []
made_by_run (Some run) = made_in run.steps.items

abbrev pub AreMadeOf : List code_run.Run → List Value → List (Option Instruction) → Type 0
AreMadeOf runs values xs =
    (found : Option code_run.Run) × IsReader runs values found × (xs ≡ made_by_run found)
