use Rattle.std.proofs.Common.{◌≡◌, vec_len}
use Rattle.text_values.specs.TestValue.{formula_of}
use Rattle.litmus_tokens.specs.ConditionMachine.{fold_to}
use Rattle.litmus_tokens.specs.ConditionReading.{condition_stack_of}
use Rattle.litmus_tokens.proofs.condition.joined.Given as goal

abbrev pub invariant-loop-frame : goal.invariant-loop-frame
invariant-loop-frame l =
    fold_to l.level (condition_stack_of l.initial.frames.items) (formula_of l.initial.operand)
    ≡ fold_to l.level (condition_stack_of l.frames.items) (formula_of l.operand)

abbrev pub decreases-loop-frame : goal.decreases-loop-frame
decreases-loop-frame l = vec_len l.frames
