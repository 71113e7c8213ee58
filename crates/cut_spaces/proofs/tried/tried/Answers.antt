use Rattle.std.proofs.Common.{sym}
use Rattle.cut_spaces.proofs.tried.tried.Goals as goal

pub returns-then-branch : goal.returns-then-branch
returns-then-branch c = (
  (c.loop-item.item-index, c.loop-item-test.true, sym c.item-item.is),
  c.in_ok-is_tried.ensures c.if-branch.true,
)
