-- The instructions that the same run executes by numbers and by names.
use Rattle.std.proofs.Common.{ℕ, zero, suc, List, [], Option, option_map, slice_get, unwrap_or, refl, sym, subst}
use Rattle.text_values.specs.declared.instruction.Instruction as text
use Rattle.text_values.specs.declared.instruction.Instruction.TheVariants.{Branch}
use Rattle.thread_runs.specs.declared.instruction.RunStep.{RunStep}
use Rattle.thread_runs.specs.declared.instruction.Event as numbered_event
use Rattle.thread_runs.specs.Runs.{executed}
use Rattle.meaning.specs.Names.{Name}
use Rattle.meaning.specs.Runs.{Instance, Run}
use Rattle.meaning.specs.Executions.{Execution}
use Rattle.meaning_executions.specs.Runs as runs
use Rattle.meaning_executions.specs.Runs.{AreSameSteps, IsSameRun}
use Rattle.meaning_executions.specs.Dependencies.{IsSameInstruction, DependAlike, RunsDependAlike}
use Rattle.meaning_executions.proofs.Depending.{depend_alike}

abbrev instruction_at : List Instance → ℕ → text.Instruction
instruction_at is n = unwrap_or (option_map (λ i. i.instruction) (slice_get is n)) (Branch [])

-- past the end both have a branch
same_instruction : (names labels : List Name) {steps : List RunStep}
    {events : List numbered_event.Event} {is : List Instance}
    → AreSameSteps names labels steps events is → (n : ℕ)
    → IsSameInstruction (executed steps n) (instruction_at is n)
same_instruction names labels runs.none n = ([], refl)
same_instruction names labels (runs.more same loaded does rest) zero = (labels, same)
same_instruction names labels (runs.more same loaded does rest) (suc n) =
    same_instruction names labels rest n

pub runs_depend_alike : (x : Execution) (thread : ℕ) → RunsDependAlike x thread
runs_depend_alike x thread names labels o r is same =
    subst (λ (q : Option Run). DependAlike (executed o.walk.steps) (λ n. instruction_at (unwrap_or (option_map (λ s. s.instances) q) []) n))
    (sym is)
    (depend_alike (executed o.walk.steps) (instruction_at r.instances)
    (same_instruction names labels same.steps))
