use Rattle.bit_relations.proofs.Sets.{held_apart, held_minus, held_words, held_events}
use Rattle.bit_relations.proofs.set.EventSet.minus.Goals as goal

pub invariant_of-result : goal.invariant_of-result
invariant_of-result c =
    held_words (held_minus (held_apart c.self.invariant) (held_apart c.other.invariant)
    c.left_alone.type_inv c.left_alone.ensures c.left_alone-2.ensures)

pub returns : goal.returns
returns c =
    rw (← c.self.view_is, ← c.other.view_is) (held_events (held_minus (held_apart c.self.invariant)
    (held_apart c.other.invariant) c.left_alone.type_inv c.left_alone.ensures
    c.left_alone-2.ensures))
