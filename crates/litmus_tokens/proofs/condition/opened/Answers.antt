use Rattle.std.proofs.Common.{◌≡◌, ap, ◌∙◌, arith}
use Rattle.litmus_tokens.specs.ConditionMachine.{open_count}
use Rattle.litmus_tokens.specs.ConditionReading.{condition_stack_of}
use Rattle.litmus_tokens.proofs.Stack.{opened_below}
use Rattle.litmus_tokens.proofs.condition.opened.Goals as goal

pub returns : goal.returns
returns c =
    let n : c.open_frames.result ≡ open_count (condition_stack_of c.args.frames.items) = c.open_frames.ensures ∙ ap (λ fs. open_count (condition_stack_of fs)) c.deref.ensures.value in
    let f = c.if-open_frames-ge-MAX_NESTING.false in
    opened_below c.args.frames.items c.push.new.self.items c.args.frame c.args.operators
    c.in_ok-push.ensures.items (omega arith)
