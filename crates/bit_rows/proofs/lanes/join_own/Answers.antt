use Rattle.std.proofs.Common.{arith, sym, ◌∙◌}
use Rattle.bit_rows.proofs.Writing.{written_none}
use Rattle.bit_rows.proofs.EightWords.{written_block, lane_fits, lanes_still, lane_union}
use Rattle.bit_rows.proofs.lanes.join_own.Goals as goal

pub loop-block-init : goal.loop-block-init
loop-block-init c = written_none _ _

pub loop-block-preserved : goal.loop-block-preserved
loop-block-preserved c =
    let before = c.loop-block.invariant in
    let from = c.load-lanes.ensures.lanes in
    let step = c.join-joined.ensures.lanes in
    written_block _ _ _ _ _ _ _ (omega arith)
    (c.store.array_long ∙ sym (before.height ∙ c.told-words)) before c.store.ensures
    (λ f j lt. lane_fits _ _ _ _ _ j lt c.ranges.word.fits (rw (from j lt) (f _)) step)
    (λ j lt b.
    let old = lanes_still _ _ _ _ j _ before (from j lt) in
    lane_union _ _ _ _ _ _ j _ _ lt old old step b)
