use Rattle.bit_rows.proofs.Wide.{Bit-low, Bit-high}
use Rattle.bit_rows.proofs.word.has_event.Goals as goal

pub returns-then-event-lt64 : goal.returns-then-event-lt64
returns-then-event-lt64 c =
    let w = Bit-low c.args.high c.args.low c.args.event c.if-event-lt64.true in
    let h = c.has_bit.ensures in
    ((λ t. w.1 (h.0 t)), (λ t. h.1 (w.0 t)))

pub returns-else-event-lt64 : goal.returns-else-event-lt64
returns-else-event-lt64 c =
    let w = Bit-high c.args.high c.args.low c.args.event c.ranges.low.fits c.if-event-lt64.false in
    let h = c.has_bit-else-event-lt64.ensures in
    ((λ t. w.1 (h.0 t)), (λ t. h.1 (w.0 t)))
