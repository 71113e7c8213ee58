use Rattle.std.proofs.Common.{arith}
use Rattle.bit_rows.proofs.Writing.{written_none, written_more, still}
use Rattle.bit_rows.proofs.words.keep.Goals as goal

pub loop-a-init : goal.loop-a-init
loop-a-init c = written_none _ _

pub loop-a-preserved : goal.loop-a-preserved
loop-a-preserved c =
    written_more _ _ _ _ _ (omega (arith, c.told-words)) c.loop-a.invariant c.word_if.type_inv
    (λ b.
    let w = c.word_if.ensures b in
    let e = c.has_event.ensures in
    let k = rw (still c.loop-a.invariant) at c.both.ensures b in (
      (λ h. let t = w.0 h in let u = k.0 t.1 in (e.0 t.0, u.0, u.1)),
      (λ h. w.1 (e.1 h.0, k.1 (h.1, h.2))),
    ))
