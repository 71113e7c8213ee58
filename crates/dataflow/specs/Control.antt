-- The loads that control goes by, as bits of a word.
use Rattle.std.specs.Prelude.{ℕ, bit_or, Bool, true, false, if◌then◌else◌}
use Rattle.thread_runs.specs.declared.instruction.Instruction.{Instruction}
use Rattle.thread_runs.specs.Machine.{is_branch}
use Rattle.taints.specs.declared.taints.Taints.{Taints}
use Rattle.taints.specs.Taints.{operand_word, taints_after, clean_taints}
use Rattle.dataflow.specs.declared.pass.Control.{Control}
use Rattle.taints.specs.Chains.{Executed, IsCtrl, IsCtrlIsync, is_isync}

-- what is known of the loads after an instruction: those that reach the CR0 of a conditional
-- branch, and those that did so before an `isync`
abbrev pub branched_after : Instruction → Taints → ℕ → ℕ
branched_after i t branched = if is_branch i then bit_or branched (operand_word i t) else branched

abbrev pub synchronised_after : Instruction → ℕ → ℕ → ℕ
synchronised_after i branched synchronised =
    if is_isync i then bit_or synchronised branched else synchronised

abbrev pub steered : Instruction → ℕ → Control → Control
steered i index c = record {
  taints = taints_after false i index c.taints;
  branched = branched_after i c.taints c.branched;
  synchronised = synchronised_after i c.branched c.synchronised;
}

-- before the first instruction
abbrev pub clean_control : Control
clean_control = record { taints = clean_taints; branched = 0; synchronised = 0 }

abbrev pub control_of : Bool → Executed → ℕ → ℕ → Type 0
control_of true = IsCtrlIsync
control_of false = IsCtrl

abbrev pub control_word : Bool → Control → ℕ
control_word true c = c.synchronised
control_word false c = c.branched
