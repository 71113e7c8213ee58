-- Instructions by numbers and by names, and how the values of loads reach them. Read next:
-- ThreadRuns.
use Rattle.std.specs.Prelude.{ℕ, ◌≡◌, ◌↔◌, List, Some, slice_get}
use Rattle.text_values.specs.declared.instruction.Instruction as text
use Rattle.thread_runs.specs.declared.instruction.Instruction as numbered_instruction
use Rattle.ppc_lowering.specs.Lowering.{lowered_instruction}
use Rattle.taints.specs.Chains as numbered
use Rattle.thread_runs.specs.Runs.{RunOutcome, executed}
use Rattle.meaning.specs.Names.{Name}
use Rattle.meaning.specs.Runs.{Run}
use Rattle.meaning.specs.Dependencies.{Instructions, IsAddr, IsData, IsCtrl, IsCtrlIsync, IsNeed}
use Rattle.meaning.specs.Executions.{Execution, instructions_of}
use Rattle.meaning_executions.specs.Runs.{IsSameRun}

-- The two instructions are the same, but for how the labels are numbered.
abbrev pub IsSameInstruction : numbered_instruction.Instruction → text.Instruction → Type 0
IsSameInstruction x i = (labels : List Name) × (x ≡ lowered_instruction labels i)

-- The instructions by numbers and by names depend on each other alike.
pub record DependAlike (by_number : numbered.Executed) (at : Instructions) : Type 0 where
  pub addr : (i j : ℕ) → numbered.IsAddr by_number i j ↔ IsAddr at i j
  pub «data» : (i j : ℕ) → numbered.IsData by_number i j ↔ IsData at i j
  pub ctrl : (i j : ℕ) → numbered.IsCtrl by_number i j ↔ IsCtrl at i j
  pub ctrlisync : (i j : ℕ) → numbered.IsCtrlIsync by_number i j ↔ IsCtrlIsync at i j
  pub need : (i j : ℕ) → numbered.IsNeed by_number i j ↔ IsNeed at i j

-- In the runs of a thread that are the same, by numbers and by names, instructions depend on each
-- other alike.
abbrev pub RunsDependAlike : Execution → ℕ → Type 0
RunsDependAlike x thread =
    (names labels : List Name) (o : RunOutcome) (r : Run) → slice_get x.runs thread ≡ Some r
    → IsSameRun names labels o r
    → DependAlike (executed o.walk.steps) (instructions_of x thread)
