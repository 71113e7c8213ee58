use Rattle.std.proofs.Common.{◌≡◌, vec_len}
use Rattle.cat_grammar.specs.Machine.{fold_to}
use Rattle.text_values.specs.ModelValues.{term_of}
use Rattle.cat_expressions.specs.Reading.{term_stack_of}
use Rattle.cat_expressions.proofs.frames.join.Given as goal

abbrev pub invariant-loop-alloc : goal.invariant-loop-alloc
invariant-loop-alloc l =
    fold_to l.least (term_stack_of l.initial.frames.items) (term_of l.initial.operand)
    ≡ fold_to l.least (term_stack_of l.frames.items) (term_of l.operand)

abbrev pub decreases-loop-alloc : goal.decreases-loop-alloc
decreases-loop-alloc l = vec_len l.frames
