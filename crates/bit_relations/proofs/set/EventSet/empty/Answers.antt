use Rattle.bit_relations.proofs.Sets.{held_none, held_words, held_events}
use Rattle.bit_relations.proofs.set.EventSet.empty.Goals as goal

pub invariant_of-result : goal.invariant_of-result
invariant_of-result c = held_words (held_none _ c.requires)

pub returns : goal.returns
returns c = held_events (held_none _ c.requires)
