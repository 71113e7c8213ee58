use Rattle.std.proofs.Common.{ap, sym, ◌∙◌}
use Rattle.cat_expressions.specs.declared.frames.Frame.TheVariants.{Left}
use Rattle.cat_grammar.specs.Machine.{fold_to, left_frames}
use Rattle.cat_expressions.specs.Reading.{term_stack_of}
use Rattle.text_values.specs.ModelValues.{term_of}
use Rattle.cat_expressions.proofs.Stack.{stack_of-push}
use Rattle.cat_expressions.proofs.frames.open_infix.Goals as goal

pub returns : goal.returns
returns c =
    ap term_stack_of c.in_ok-push.ensures.items
    ∙ stack_of-push c.join.new.frames.items (Left c.args.op c.join.new.operand)
    ∙ sym (ap
    (λ n. left_frames c.args.op (fold_to n (term_stack_of c.args.frames.now.items)
    (term_of c.args.left)))
    (sym c.left_level.ensures) ∙ ap (left_frames c.args.op) c.in_ok-join.ensures)
