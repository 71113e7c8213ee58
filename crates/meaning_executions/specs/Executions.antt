-- Executions by number and by name that are the same. Read next: Refusals.
use Rattle.std.specs.Prelude.{ℕ, suc, ◌≡◌, List, [], ◌∷◌, flat_map, Contains}
use Rattle.std.specs.List.{AllZip}
use Rattle.text_values.specs.TestValue.{Content}
use Rattle.thread_runs.specs.declared.instruction.Program.{Program}
use Rattle.thread_runs.specs.declared.value.Value as numbered_value
use Rattle.thread_runs.specs.Runs as by_number
use Rattle.ppc_lowering.specs.Domain.{threads_of}
use Rattle.ppc_lowering.specs.Lowering.{AreNamesOf, labels_in}
use Rattle.candidates.specs.Executions as numbered
use Rattle.meaning.specs.Names.{Name, locations}
use Rattle.meaning.specs.Runs.{Run, lines_of_thread}
use Rattle.meaning.specs.Executions.{Execution, IsExecution}
use Rattle.meaning_executions.specs.Runs.{IsSameRun}
use Rattle.meaning_executions.specs.ThreadRuns.{AreSameThreadRuns}
use Rattle.meaning_executions.specs.Events.{IsNumbered, named_events}

-- The two are the same execution: they have the same runs, each load reads the same store, and the
-- stores of each location are in the same order.
pub record IsSameExecution (t : Content) (x : numbered.Execution) (y : Execution) : Type 0 where
  pub runs : AreSameThreadRuns t 0 x.runs y.runs
  pub reads_from : AllZip (IsNumbered (named_events t y.runs)) x.reads_from y.reads_from
  pub coherence : AllZip (AllZip (IsNumbered (named_events t y.runs))) x.coherence y.coherence

-- It is an execution of the program, whose loads take these values.
abbrev pub IsProgramExecution : Program → List numbered_value.Value → numbered.Execution → Type 0
IsProgramExecution p V x =
    numbered.IsExecution p.initial.items (threads_of p) (Contains V) x

-- Each execution of the program over these values is one of the test, and the other way round. No
-- two are the same as one.
pub record AreSameExecutions (t : Content) (p : Program) (V : List numbered_value.Value)
    : Type 0 where
  pub by_name : (x : numbered.Execution) → IsProgramExecution p V x
      → (y : Execution) × IsExecution t y × IsSameExecution t x y
  pub by_number : (y : Execution) → IsExecution t y
      → (x : numbered.Execution) × IsProgramExecution p V x × IsSameExecution t x y
  pub one_name : (x : numbered.Execution) (y z : Execution) → IsExecution t y → IsExecution t z
      → IsSameExecution t x y → IsSameExecution t x z → y ≡ z
  pub one_number : (x z : numbered.Execution) (y : Execution) → IsProgramExecution p V x
      → IsProgramExecution p V z → IsSameExecution t x y → IsSameExecution t z y → x ≡ z
