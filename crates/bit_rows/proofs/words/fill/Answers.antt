use Rattle.std.proofs.Common.{arith}
use Rattle.bit_rows.proofs.Writing.{written_none, written_more}
use Rattle.bit_rows.proofs.words.fill.Goals as goal

pub loop-a-init : goal.loop-a-init
loop-a-init c = written_none _ _

pub loop-a-preserved : goal.loop-a-preserved
loop-a-preserved c =
    written_more _ _ _ _ _ (omega (arith, c.told-words)) c.loop-a.invariant c.word_if.type_inv
    (λ b.
    let w = c.word_if.ensures b in
    let e = c.has_event.ensures in
    ((λ h. let t = w.0 h in (e.0 t.0, t.1)), (λ h. w.1 (e.1 h.0, h.1))))
