-- The law of the instructions that are shown: those of runs whose events are the events of the
-- execution. `laws` states `ShowRuns`. Read Origins first, and `events` of `Executions` of
-- candidates.
use Rattle.std.specs.Prelude.{ℕ, ◌≡◌, ◌++◌, true, List, map, Option, Some, None, slice_get}
use Rattle.std.specs.List.{AllZip, flat_map}
use Rattle.text_values.specs.declared.test.Test.{Test}
use Rattle.thread_runs.specs.declared.instruction.Instruction.{Instruction}
use Rattle.thread_runs.specs.declared.instruction.Program.{Program}
use Rattle.thread_runs.specs.declared.value.Value.{Value}
use Rattle.thread_runs.specs.Runs.{Thread, Run, run_of}
use Rattle.ppc_lowering.specs.Domain.{threads_of}
use Rattle.ppc_lowering.specs.Lowering.{IsProgram}
use Rattle.store_orders.specs.Events.{IsKind}
use Rattle.store_orders.specs.declared.combination.Event.{Event}
use Rattle.candidate_spaces.specs.declared.candidate.Space.{Space}
use Rattle.candidates.specs.Executions.{events}
use Rattle.candidates.specs.Listed.{ListsExecutions}
use Rattle.candidate_spaces.specs.Space.{Shown, shown_in}
use Rattle.why_text.specs.Origins.{AreInstructions, made_in, makes_event}

-- an initial store comes from no instruction; any other event is one of a thread, and of the kind
-- of its instruction: a load, a store, or that fence
abbrev pub ComesFrom : Option Instruction → Event → Type 0
ComesFrom None e = e.thread ≡ None
ComesFrom (Some i) e = (makes_event i ≡ true) × (thread : ℕ) × IsKind thread i e

-- none for each initial store, and then those that the runs execute and that make an event
abbrev pub instructions_in : List Value → List Run → List (Option Instruction)
instructions_in initial runs =
    map (λ v. None) initial ++ flat_map (λ r. made_in r.outcome.walk.steps) runs

-- the thread, with these values for its loads, has this run
abbrev pub Goes : Thread → Run → Type 0
Goes t r = run_of t.lines t.first r.values ≡ Some r.outcome

-- There is a run of each thread of the test, such that the events are the initial stores and those
-- of the runs, and the instructions are those that the runs execute: each event comes from its own.
pub record AreOfRuns (test : Test) (es : List Event) (xs : List (Option Instruction)) : Type 0 where
  pub program : Program
  pub of_test : IsProgram test program
  pub runs : List Run
  pub of_threads : AllZip Goes (threads_of program) runs
  pub of_runs : es ≡ events program.initial.items runs
  pub instructions : xs ≡ instructions_in program.initial.items runs
  pub each : AllZip ComesFrom xs es

-- the instructions of each execution of the test are so
abbrev pub ShowRuns : Test → Space → Type 0
ShowRuns test space =
    ListsExecutions test space → (k : ℕ) (e : Shown) (xs : List (Option Instruction))
    → slice_get (shown_in space) k ≡ Some e → AreInstructions test e.events xs
    → AreOfRuns test e.events xs
