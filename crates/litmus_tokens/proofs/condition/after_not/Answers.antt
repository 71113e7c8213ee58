use Rattle.std.proofs.Common.{◌≡◌, ap, ◌∙◌, sym, false, arith}
use Rattle.litmus_tokens.specs.ConditionMachine.{open_count, is_equals}
use Rattle.litmus_tokens.specs.ConditionReading.{condition_stack_of}
use Rattle.litmus_tokens.proofs.Stack.{not_result}
use Rattle.litmus_tokens.proofs.condition.after_not.Goals as goal

pub returns : goal.returns
returns c =
    let n : c.open_frames.result ≡ open_count (condition_stack_of c.args.frames.items) = c.open_frames.ensures ∙ ap (λ fs. open_count (condition_stack_of fs)) c.deref.ensures.value in
    let f = c.if-open_frames-ge-MAX_NESTING.false in
    let other : is_equals c.args.token ≡ false = sym c.is_equals.ensures ∙ c.if-is_equals.false in
    not_result c.args.threads c.args.frames.items c.push.new.self.items c.args.operators
    c.args.token c.operand.result other c.in_ok-push.ensures.items (omega arith)
    c.operand.ensures
