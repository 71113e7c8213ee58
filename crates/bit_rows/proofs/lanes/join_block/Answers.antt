use Rattle.std.proofs.Common.{arith, sym, ◌∙◌}
use Rattle.bit_rows.proofs.Writing.{written_none}
use Rattle.bit_rows.proofs.EightWords.{written_block, joined_fits, lanes_still, lane_joined}
use Rattle.bit_rows.proofs.lanes.join_block.Goals as goal

pub loop-block-init : goal.loop-block-init
loop-block-init c = written_none _ _

pub loop-block-preserved : goal.loop-block-preserved
loop-block-preserved c =
    let before = c.loop-block.invariant in
    let from = c.load-acc.ensures.lanes in
    let turn = c.join_words-joined.ensures.lanes in
    written_block _ _ _ _ _ _ _ (omega arith)
    (c.store.array_long ∙ sym (before.height ∙ c.told-words)) before c.store.ensures
    (λ f j lt. joined_fits _ _ _ _ _ _ j c.fits-others (rw (from j lt) (f _)) (λ b. turn j b lt))
    (λ j lt b. lane_joined _ _ _ _ _ _ _ _ _ j b (lanes_still _ _ _ _ j _ before (from j lt))
    (c.load.ensures.lanes j lt) (turn j b lt))
