use Rattle.bit_relations.proofs.Sets.{held_apart, held_union, held_words, held_events}
use Rattle.bit_relations.proofs.set.EventSet.union.Goals as goal

pub invariant_of-result : goal.invariant_of-result
invariant_of-result c =
    held_words (held_union (held_apart c.self.invariant) (held_apart c.other.invariant)
    (rw (← c.self.view_is, ← c.other.view_is) at c.requires) c.either.type_inv c.either.ensures
    c.either-2.ensures)

pub returns : goal.returns
returns c =
    rw (← c.self.view_is, ← c.other.view_is) (held_events (held_union (held_apart c.self.invariant)
    (held_apart c.other.invariant) (rw (← c.self.view_is, ← c.other.view_is) at c.requires)
    c.either.type_inv c.either.ensures c.either-2.ensures))
