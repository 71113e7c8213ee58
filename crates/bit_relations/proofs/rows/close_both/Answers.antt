use Rattle.std.proofs.Common.{arith}
use Rattle.bit_rows.proofs.Closing.{close_step, through_nothing}
use Rattle.bit_rows.proofs.Paths.{PlusBelow-zero, PlusBelow-all}
use Rattle.bit_relations.proofs.rows.close_both.Goals as goal
use Rattle.bit_relations.proofs.rows.close_both.Goals.{then-low-middle-ne0, else-low-middle-ne0+else-high-middle-ne0}

pub loop-middle-init : goal.loop-middle-init
loop-middle-init c = (c.requires, λ a b. PlusBelow-zero _ a b)

pub loop-middle-preserved : goal.loop-middle-preserved
loop-middle-preserved c =
    elim c.if-low-middle-ne0.branch [
      | then-low-middle-ne0 w ↦ rw (w.low-is, w.high-is) (
        w.close_through.ensures.columns,
        close_step _ _ _ _ c.loop-middle.invariant.1 w.close_through.ensures.pairs,
      )
      | else-low-middle-ne0+else-high-middle-ne0 w ↦ rw (w.low-is, w.high-is) (
        c.loop-middle.invariant.0,
        close_step _ _ _ _ c.loop-middle.invariant.1 (through_nothing _ _ _ _
            c.loop-middle.invariant.0 w.if-low-middle-ne0.false w.if-high-middle-ne0.false),
      )
    ]

pub returns-clause-pairs : goal.returns-clause-pairs
returns-clause-pairs c = λ a b.
    let all = PlusBelow-all _ c.loop-middle.middle a b (λ x y r. let w = c.requires.within x y r in (omega (arith, w.0), omega (arith, w.1))) in (
      (λ h. all.0 ((c.loop-middle.invariant.1 a b).0 h)),
      (λ p. (c.loop-middle.invariant.1 a b).1 (all.1 p)),
    )
