use Rattle.bit_relations.proofs.Sets.{held_apart, held_inter, held_words, held_events}
use Rattle.bit_relations.proofs.set.EventSet.inter.Goals as goal

pub invariant_of-result : goal.invariant_of-result
invariant_of-result c =
    held_words (held_inter (held_apart c.self.invariant) (held_apart c.other.invariant)
    c.both.type_inv c.both.ensures c.both-2.ensures)

pub returns : goal.returns
returns c =
    rw (← c.self.view_is, ← c.other.view_is) (held_events (held_inter (held_apart c.self.invariant)
    (held_apart c.other.invariant) c.both.type_inv c.both.ensures c.both-2.ensures))
