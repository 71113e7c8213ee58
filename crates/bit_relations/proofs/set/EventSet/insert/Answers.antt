use Rattle.bit_relations.proofs.Sets.{held_apart, held_low, held_high, held_words, held_events}
use Rattle.bit_relations.proofs.set.EventSet.insert.Goals as goal

pub invariant_of-self : goal.invariant_of-self
invariant_of-self c =
    held_words (held_low c.args.event (held_apart c.self.invariant)
    (rw (← c.self.view_is) at c.requires) c.if-event-lt64.true c.with_bit-self-inside.type_inv
    c.with_bit-self-inside.ensures)

pub invariant_of-self-else-event-lt64 : goal.invariant_of-self-else-event-lt64
invariant_of-self-else-event-lt64 c =
    held_words (held_high c.args.event (held_apart c.self.invariant)
    (rw (← c.self.view_is) at c.requires) c.if-event-lt64.false
    c.with_bit-self-inside-else-event-lt64.ensures)

pub returns-then-event-lt64 : goal.returns-then-event-lt64
returns-then-event-lt64 c =
    rw (← c.self.view_is) (held_events (held_low c.args.event (held_apart c.self.invariant)
    (rw (← c.self.view_is) at c.requires) c.if-event-lt64.true
    c.with_bit-self-inside.type_inv c.with_bit-self-inside.ensures))

pub returns-else-event-lt64 : goal.returns-else-event-lt64
returns-else-event-lt64 c =
    rw (← c.self.view_is) (held_events (held_high c.args.event (held_apart c.self.invariant)
    (rw (← c.self.view_is) at c.requires) c.if-event-lt64.false
    c.with_bit-self-inside-else-event-lt64.ensures))
