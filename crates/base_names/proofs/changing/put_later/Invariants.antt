use Rattle.bit_rows.specs.Relation.{Has, IsRelation}
use Rattle.bit_rows.specs.Pairs.{Union}
use Rattle.base_names.specs.Events.{Below, CoherenceFromTo}
use Rattle.base_names.proofs.changing.put_later.Given as goal

abbrev pub invariant-loop-behind : goal.invariant-loop-behind
invariant-loop-behind l =
    IsRelation l.coherence l.initial.coherence.count (Union (Has l.initial.coherence)
    (Below l.initial.coherence.count (CoherenceFromTo l.events l.order l.index l.behind)))
