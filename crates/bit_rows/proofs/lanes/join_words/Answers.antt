use Rattle.std.proofs.Common.{arith, inl, inr}
use Rattle.bit_rows.proofs.EightWords.{joined_more, joined_no_more}
use Rattle.bit_rows.proofs.lanes.join_words.Goals as goal
use Rattle.bit_rows.proofs.lanes.join_words.Goals.{then-word-ne0, else-word-ne0}

pub loop-c-init : goal.loop-c-init
loop-c-init c = (
  c.requires.count,
  (λ i b lt. ((λ h. inl h), (λ h. elim h [ inl o ↦ o | inr t ↦ absurd (omega (arith, t.1)) ]))),
)

pub loop-c-preserved : goal.loop-c-preserved
loop-c-preserved c =
    let before = c.loop-c.invariant in
    elim c.if-word-ne0.branch [
      | then-word-ne0 w ↦ rw w.joined-is (
        w.join-joined.ensures.count,
        joined_more _ _ _ _ _ _ _ before.1 w.join-joined.ensures.lanes,
      )
      | else-word-ne0 w ↦ rw w.joined-is (
        before.0,
        joined_no_more _ _ _ _ _ _ before.1 w.if-word-ne0.false,
      )
    ]
