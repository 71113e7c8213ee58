use Rattle.std.proofs.Common.{arith, ◌∙◌}
use Rattle.bit_rows.proofs.Closing.{step_low, passed_low}
use Rattle.bit_rows.proofs.Paths.{PlusBelow-zero, PlusBelow-all}
use Rattle.bit_relations.proofs.rows.close_blocks.Goals as goal
use Rattle.bit_relations.proofs.rows.close_blocks.Goals.{then-row-ne0, else-row-ne0}

pub loop-middle-init : goal.loop-middle-init
loop-middle-init c = (c.told-low, c.fits-low, λ a b. PlusBelow-zero _ a b)

pub loop-middle-preserved : goal.loop-middle-preserved
loop-middle-preserved c =
    let before = c.loop-middle.invariant in
    elim c.if-row-ne0.branch [
      | then-row-ne0 w ↦ rw w.low-is (
        w.join_own.ensures.height ∙ before.0,
        w.join_own.ensures.fits before.1,
        step_low _ _ _ _ _ _ c.blocks_of-blocks.ensures.all c.requires.within before.2
            w.join_own.ensures,
      )
      | else-row-ne0 w ↦ rw w.low-is (
        before.0,
        before.1,
        passed_low _ _ _ before.2 w.if-row-ne0.false,
      )
    ]

pub returns-clause-height : goal.returns-clause-height
returns-clause-height c = c.loop-middle.invariant.0

pub returns-clause-fits : goal.returns-clause-fits
returns-clause-fits c = c.loop-middle.invariant.1

pub returns-clause-pairs : goal.returns-clause-pairs
returns-clause-pairs c = λ a b.
    let all = PlusBelow-all _ c.loop-middle.middle a b (λ x y r. let w = c.requires.within x y r in (omega (arith, w.0), omega (arith, w.1))) in (
      (λ h. all.0 ((c.loop-middle.invariant.2 a b).0 h)),
      (λ p. (c.loop-middle.invariant.2 a b).1 (all.1 p)),
    )
