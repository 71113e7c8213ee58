use Rattle.std.proofs.Common.{◌≡◌, ap, ◌∙◌, arith}
use Rattle.cat_grammar.specs.Machine.{open_count}
use Rattle.cat_expressions.specs.Reading.{term_stack_of}
use Rattle.cat_expressions.proofs.Stack.{opened_below, steps_same}
use Rattle.cat_expressions.proofs.terms.OpenExpression.opened.Goals as goal

pub returns : goal.returns
returns c = λ t.
    let n : c.open_frames.result ≡ open_count (term_stack_of c.args.self.now.frames.items) = c.open_frames.ensures ∙ ap (λ fs. open_count (term_stack_of fs)) c.deref.ensures.value in
    let f = c.if-open_frames-ge-MAX_NESTING.false in
    steps_same t _ _ _ _
    (opened_below c.args.self.now.frames.items c.push.new.self.items c.args.frame
    c.args.self.now.operators c.in_ok-push.ensures.items (omega arith))
    (c.goes.ensures t)
