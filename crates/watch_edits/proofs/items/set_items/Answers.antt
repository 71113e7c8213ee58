use Rattle.std.proofs.Common.{length, arith}
use Rattle.watch_edits.proofs.items.set_items.Goals as goal

pub loop-index-preserved : goal.loop-index-preserved
loop-index-preserved c = (
  c.in_ok-set_item.ensures.applied,
  (λ s h. c.in_ok-set_item.ensures.before (length c.args.old.now) (length c.args.new.now) s
      (grind (arith, h, c.loop-index-test.true, c.min.ensures, c.requires.old, c.requires.new))
      (grind (arith, h, c.loop-index-test.true, c.min.ensures, c.requires.old, c.requires.new))
      (c.loop-index.invariant.1 s h)),
  c.in_ok-set_item.ensures.needed,
)
