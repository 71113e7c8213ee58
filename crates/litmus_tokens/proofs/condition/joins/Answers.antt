use Rattle.std.proofs.Common.{arith}
use Rattle.text_values.specs.TestValue.{formula_of}
use Rattle.litmus_tokens.proofs.Stack.{joins_below}
use Rattle.litmus_tokens.proofs.condition.joins.Goals as goal

pub returns : goal.returns
returns c =
    let f = c.if-operators-ge-MAX_OPERATORS.false in
    joins_below c.args.frames.items c.joined.new.frames.items c.push.new.self.items
    c.args.connective c.level.result c.args.operators (formula_of c.args.left) c.in_ok-left.left
    c.level.ensures.value c.in_ok-left.ensures c.in_ok-push.ensures.items (omega arith)
