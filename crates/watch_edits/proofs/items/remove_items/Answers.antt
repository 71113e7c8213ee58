use Rattle.std.proofs.Common.{length, arith}
use Rattle.watch_edits.proofs.items.remove_items.Goals as goal

pub loop-at-preserved : goal.loop-at-preserved
loop-at-preserved c = (
  c.in_ok-remove_item.ensures.applied,
  (λ s h. c.in_ok-remove_item.ensures.before (length c.args.old.now) (length c.args.new.now) s
      (omega (arith, h, c.loop-at-test.true, c.loop-at.auto.at, c.requires.old, c.requires.new))
      (c.loop-at.invariant.1 s h)),
  c.in_ok-remove_item.ensures.needed,
)
