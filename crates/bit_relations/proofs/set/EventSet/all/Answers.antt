use Rattle.bit_relations.proofs.Sets.{held_all, held_words, held_events}
use Rattle.bit_relations.proofs.set.EventSet.all.Goals as goal

pub invariant_of-result : goal.invariant_of-result
invariant_of-result c =
    held_words (held_all _ _ _ _ _ c.requires c.lowest_bits.type_inv c.in_low.ensures.cut
    c.in_high.ensures.cut c.lowest_bits.ensures c.lowest_bits-2.ensures)

pub returns : goal.returns
returns c =
    held_events (held_all _ _ _ _ _ c.requires c.lowest_bits.type_inv c.in_low.ensures.cut
    c.in_high.ensures.cut c.lowest_bits.ensures c.lowest_bits-2.ensures)
