use Rattle.std.proofs.Common.{arith, inl, inr}
use Rattle.bit_rows.proofs.Bits.{Bit-zero}
use Rattle.bit_rows.proofs.word.own_bit.Goals as goal

pub returns-then-event-at : goal.returns-then-event-at
returns-then-event-at c =
    λ b. ((λ h. absurd (Bit-zero b h)), (λ h. absurd (omega (arith, h.1, c.if-event-at.true))))

pub returns-then-k-lt64 : goal.returns-then-k-lt64
returns-then-k-lt64 c = λ b. (
  (λ h. elim ((c.with_bit.ensures b).0 h) [
    | inl z ↦ absurd (Bit-zero b z)
    | inr e ↦ (omega (arith, e, c.if-k-lt64.true), omega (arith, e, c.if-event-at.false))
  ]),
  (λ h. (c.with_bit.ensures b).1 (inr (omega (arith, h.1)))),
)

pub returns-else-k-lt64 : goal.returns-else-k-lt64
returns-else-k-lt64 c =
    λ b. ((λ h. absurd (Bit-zero b h)), (λ h. absurd (omega (arith, h.0, h.1, c.if-k-lt64.false))))
