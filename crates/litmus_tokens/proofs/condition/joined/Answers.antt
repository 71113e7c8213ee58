use Rattle.std.proofs.Common.{ap}
use Rattle.text_values.specs.TestValue.{formula_of}
use Rattle.litmus_tokens.proofs.Stack.{popped_prefix, popped_left, popped_stays, popped_group}
use Rattle.litmus_tokens.proofs.condition.joined.Goals as goal

pub loop-frame-preserved-in-Prefix : goal.loop-frame-preserved-in-Prefix
loop-frame-preserved-in-Prefix c =
    popped_prefix _ _ _ _ _ c.loop-frame.invariant _ c.in-Some.ensures.items c.in-Prefix.is _
    (ap formula_of c.in_ok-new-in-Prefix.ensures.ok)

pub loop-frame-preserved : goal.loop-frame-preserved
loop-frame-preserved c =
    popped_left _ _ _ _ _ c.loop-frame.invariant _ c.in-Some.ensures.items _ _ _ _ c.in-Left.is
    c.in_ok-left-in-Left.ensures.ok (ap formula_of c.in_ok-new-in-Left.ensures.ok)
    (rw (← c.level.ensures.value) c.if-level.true)

pub returns-else-level : goal.returns-else-level
returns-else-level c =
    popped_stays _ _ _ _ _ c.loop-frame.invariant _ c.in-Some.ensures.items _ _ _ c.in-Left.is
    (rw (← c.level.ensures.value) c.if-level.false) c.in_ok-push-in-Left.ensures.items

pub returns-in-Group : goal.returns-in-Group
returns-in-Group c =
    popped_group _ _ _ _ _ c.loop-frame.invariant _ c.in-Some.ensures.items c.in-Group.is _
    c.in_ok-push-in-Group.ensures.items
