use Rattle.std.proofs.Common.{arith, sym, ◌∙◌}
use Rattle.bit_rows.proofs.Writing.{written_none}
use Rattle.bit_rows.proofs.EightWords.{written_block, lane_fits, lanes_still, lane_union}
use Rattle.bit_rows.proofs.lanes.join_both.Goals as goal

pub loop-block-init : goal.loop-block-init
loop-block-init c = (written_none _ _, written_none _ _)

pub loop-block-preserved : goal.loop-block-preserved
loop-block-preserved c =
    let own = c.loop-block.invariant.0 in
    let other = c.loop-block.invariant.1 in
    let from_own = c.load-select.ensures.lanes in
    let from_other = c.load-acc.ensures.lanes in
    let step_own = c.join-joined_own.ensures.lanes in
    let step_other = c.join-joined_other.ensures.lanes in (
      written_block _ _ _ _ _ _ _ (omega arith) (c.store.array_long ∙ sym (own.height ∙ c.told-own))
          own c.store.ensures
          (λ f j lt. lane_fits _ _ _ _ _ j lt c.ranges.own_word.fits (rw (from_own j lt) (f _))
          step_own)
          (λ j lt b.
          let old = lanes_still _ _ _ _ j _ own (from_own j lt) in
          lane_union _ _ _ _ _ _ j _ _ lt old old step_own b),
      written_block _ _ _ _ _ _ _ (omega arith)
          (c.store-in-loop-block.array_long ∙ sym (other.height ∙ c.told-other)) other
          c.store-in-loop-block.ensures
          (λ f j lt. lane_fits _ _ _ _ _ j lt c.ranges.other_word.fits (rw (from_other j lt) (f _))
          step_other)
          (λ j lt b. lane_union _ _ _ _ _ _ j _ _ lt
          (lanes_still _ _ _ _ j _ other (from_other j lt))
          (lanes_still _ _ _ _ j _ own (from_own j lt)) step_other b),
    )
