-- The run of a thread, told line by line. `laws::runs_go_line_by_line` says that `run_of` of `Runs`
-- is this.
use Rattle.std.specs.Prelude.{ℕ, ◌≡◌, ◌↔◌, true, false, List, [], ◌∷◌, Some, None}
use Rattle.thread_runs.specs.declared.value.Value.{Value}
use Rattle.thread_runs.specs.declared.value.Value.TheVariants.{NoValue}
use Rattle.thread_runs.specs.declared.instruction.Instruction.{Instruction}
use Rattle.thread_runs.specs.declared.instruction.Line.{Line}
use Rattle.thread_runs.specs.declared.instruction.Line.TheVariants.{Label, Does}
use Rattle.thread_runs.specs.Machine.{State, is_fault, is_load, takes_branch}
use Rattle.thread_runs.specs.Runs.{Walk, RunOutcome, walk_at, walk_after, walk_past, run_of}

-- the walk with the instruction executed: what it loads, and its branch taken or not, as the state
-- says
abbrev pub executing : Instruction → Value → Walk → Walk
executing i loaded w = walk_after i (takes_branch i w.state) loaded w

abbrev pub at_the_end : Walk → RunOutcome
at_the_end w = record { faulted = false; walk = w }

abbrev pub at_a_fault : Walk → RunOutcome
at_a_fault w = record { faulted = true; walk = w }

-- from a walk on, the thread goes over the lines, its loads take just these values, and it ends so
pub data GoesOver : List Line → Walk → List Value → RunOutcome → Type 0 where
  -- behind the last line the run ends
  ends : {w : Walk} → GoesOver [] w [] (at_the_end w)
  -- a thread that looks for a label passes over each line, and has found the label behind its own
  looks : {x : Line} {xs : List Line} {w : Walk} {vs : List Value} {o : RunOutcome} (label : ℕ)
      → w.seeking ≡ Some label → GoesOver xs (walk_past x label w) vs o → GoesOver (x ∷ xs) w vs o
  -- otherwise a label does nothing
  passes : {label : ℕ} {xs : List Line} {w : Walk} {vs : List Value} {o : RunOutcome}
      → w.seeking ≡ None → GoesOver xs w vs o → GoesOver (Label label ∷ xs) w vs o
  -- an instruction that is a fault stops the run before it
  stops : {i : Instruction} {xs : List Line} {w : Walk} → w.seeking ≡ None
      → is_fault i w.state ≡ true → GoesOver (Does i ∷ xs) w [] (at_a_fault w)
  -- a load takes the next value
  loads : {i : Instruction} {xs : List Line} {w : Walk} {v : Value} {vs : List Value} {o : RunOutcome}
      → w.seeking ≡ None → is_fault i w.state ≡ false → is_load i ≡ true
      → GoesOver xs (executing i v w) vs o → GoesOver (Does i ∷ xs) w (v ∷ vs) o
  -- another instruction takes none
  executes : {i : Instruction} {xs : List Line} {w : Walk} {vs : List Value} {o : RunOutcome}
      → w.seeking ≡ None → is_fault i w.state ≡ false → is_load i ≡ false
      → GoesOver xs (executing i NoValue w) vs o → GoesOver (Does i ∷ xs) w vs o

-- the run whose loads take these values is the one that goes so over the lines
abbrev pub GoesLineByLine : List Line → State → List Value → Type 0
GoesLineByLine lines first values =
    (o : RunOutcome) → (run_of lines first values ≡ Some o) ↔ GoesOver lines (walk_at first) values o
