use Rattle.std.proofs.Common.{arith}
use Rattle.base_names.proofs.Rising.{rising_more}
use Rattle.base_names.proofs.changing.is_rising.Goals as goal

pub loop-index-preserved : goal.loop-index-preserved
loop-index-preserved c =
    rising_more c.args.events.now c.args.order.now c.loop-index.index c.loop-index.greatest
    c.in-Some.location ((c.location_at.ensures c.in-Some.location).0 c.in-Some.is)
    c.if-greatest-location.true c.loop-index.invariant

pub returns : goal.returns
returns c =
    λ t. (
      λ i lt. c.loop-index.invariant.0.0 i (omega (arith, lt, c.loop-index-test.false)),
      λ i j l m lt lt'.
          c.loop-index.invariant.0.1 i j l m lt (omega (arith, lt', c.loop-index-test.false)),
    )
