use Rattle.bit_rows.specs.Relation.{Has, IsRelation}
use Rattle.bit_rows.specs.Pairs.{Union}
use Rattle.base_names.specs.Events.{Below}
use Rattle.base_names.specs.Orders.{CoherenceBetween}
use Rattle.base_names.proofs.reordering.put_from.Given as goal

abbrev pub invariant-loop-index : goal.invariant-loop-index
invariant-loop-index l =
    IsRelation l.coherence l.initial.coherence.count (Union (Has l.initial.coherence)
    (Below l.initial.coherence.count (CoherenceBetween l.events l.order l.from l.index)))
