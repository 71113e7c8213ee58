use Rattle.litmus_tokens.proofs.Stack.{refused_of}
use Rattle.litmus_tokens.proofs.condition.ended.Goals as goal

pub returns-in-Some : goal.returns-in-Some
returns-in-Some c = refused_of _ _ _ _ _ c.in_ok-operand.ensures c.in-Some.ensures.items
