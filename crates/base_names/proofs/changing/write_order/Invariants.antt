use Rattle.bit_rows.specs.Relation.{IsRelation}
use Rattle.base_names.specs.Events.{Below, CoherenceTo}
use Rattle.base_names.proofs.changing.write_order.Given as goal

abbrev pub invariant-loop-index : goal.invariant-loop-index
invariant-loop-index l =
    IsRelation l.coherence l.count (Below l.count (CoherenceTo l.events l.order l.index))
