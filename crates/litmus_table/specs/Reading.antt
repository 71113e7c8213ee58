-- What the reader holds of a table, as the machine sees it.
use Rattle.std.specs.Prelude.{◌≡◌, List, [], ◌∷◌, map, Option, Some, Result, Ok, Err}
use Rattle.litmus_tokens.specs.declared.step.StepError.{StepError}
use Rattle.text_values.specs.declared.test.Step.{Step}
use Rattle.litmus_table.specs.declared.late.PlacedThread.{PlacedThread}
use Rattle.litmus_table.specs.declared.table.Cell.{Cell}
use Rattle.litmus_table.specs.declared.table.Cell.TheVariants as cells
use Rattle.litmus_table.specs.declared.table.Table.{Table}
use Rattle.litmus_words.specs.Machine as machine
use Rattle.litmus_words.specs.Taking.{RefusesStep, pending_of}

abbrev pub thread_of : PlacedThread → machine.ThreadSteps
thread_of t = record { steps = t.steps.items; offsets = t.offsets.items }

abbrev pub threads_of : List PlacedThread → List machine.ThreadSteps
threads_of ts = map thread_of ts

-- the steps of the first thread, if there is one
abbrev pub first_steps : List machine.ThreadSteps → List Step
first_steps [] = []
first_steps (t ∷ ts) = t.steps

abbrev pub cell_expectation_of : Cell → machine.CellExpectation
cell_expectation_of cells.Begins = machine.Begins
cell_expectation_of cells.Labelled = machine.Labelled
cell_expectation_of (cells.InInstruction p) = machine.InInstruction (pending_of p)
cell_expectation_of (cells.WantsLabel condition) = machine.WantsLabel condition
cell_expectation_of cells.Whole = machine.Whole

abbrev pub table_state_of : Table → machine.TableState
table_state_of t =
    record {
      threads = threads_of t.threads.items;
      column = t.column;
      expected = cell_expectation_of t.cell;
    }

-- What a function returned, seen by view, is what the machine does, unless memory ran out.
abbrev pub TableSteps : Result (Unit {0}) StepError → Table → Option machine.TableState → Type 0
TableSteps (Ok u) t made = made ≡ Some (table_state_of t)
TableSteps (Err e) t made = RefusesStep e made
