use Rattle.std.proofs.Common.{sym, ◌∙◌}
use Rattle.bit_rows.proofs.Wide.{low_bit, high_bit}
use Rattle.bit_relations.proofs.rows.leading_to.Goals as goal

pub returns-then-event-lt64 : goal.returns-then-event-lt64
returns-then-event-lt64 c = λ b.
    let w = low_bit _ _ _ _ (c.told-low ∙ sym c.told-high) c.if-event-lt64.true in
    let k = c.column.ensures b in
    ((λ h. let t = k.0 h in (t.0, w.1 t.1)), (λ h. k.1 (h.0, w.0 h.1)))

pub returns-else-event-lt64 : goal.returns-else-event-lt64
returns-else-event-lt64 c = λ b.
    let w = high_bit _ _ _ _ (c.told-low ∙ sym c.told-high) c.fits-low c.if-event-lt64.false in
    let k = c.column-else-event-lt64.ensures b in
    ((λ h. let t = k.0 h in (t.0, w.1 t.1)), (λ h. k.1 (h.0, w.0 h.1)))
