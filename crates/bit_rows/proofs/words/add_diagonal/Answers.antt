use Rattle.std.proofs.Common.{arith, inl, inr}
use Rattle.bit_rows.proofs.Writing.{written_none, written_more, still}
use Rattle.bit_rows.proofs.words.add_diagonal.Goals as goal

pub loop-a-init : goal.loop-a-init
loop-a-init c = written_none _ _

pub loop-a-preserved : goal.loop-a-preserved
loop-a-preserved c =
    written_more _ _ _ _ _ (omega (arith, c.told-words)) c.loop-a.invariant c.either.type_inv
    (λ b.
    let w = rw (still c.loop-a.invariant) at c.either.ensures b in
    let o = c.own_bit.ensures b in (
      (λ h. elim (w.0 h) [ inl x ↦ inl x | inr y ↦ inr (o.0 y) ]),
      (λ h. w.1 (elim h [ inl x ↦ inl x | inr y ↦ inr (o.1 y) ])),
    ))
