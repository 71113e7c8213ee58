use Rattle.bit_relations.proofs.Sets.{held_apart, held_all, held_minus, held_words, held_events}
use Rattle.bit_relations.proofs.set.EventSet.complement.Goals as goal

pub invariant_of-result : goal.invariant_of-result
invariant_of-result c =
    held_words (held_minus
    (held_all _ _ _ _ _ c.self.invariant.few c.lowest_bits.type_inv c.in_low.ensures.cut
    c.in_high.ensures.cut c.lowest_bits.ensures c.lowest_bits-2.ensures)
    (held_apart c.self.invariant) c.left_alone.type_inv c.left_alone.ensures
    c.left_alone-2.ensures)

pub returns : goal.returns
returns c =
    rw (← c.self.view_is) (held_events (held_minus
    (held_all _ _ _ _ _ c.self.invariant.few c.lowest_bits.type_inv c.in_low.ensures.cut
    c.in_high.ensures.cut c.lowest_bits.ensures c.lowest_bits-2.ensures)
    (held_apart c.self.invariant) c.left_alone.type_inv c.left_alone.ensures
    c.left_alone-2.ensures))
