use Rattle.bit_rows.specs.Relation.{Has, IsRelation}
use Rattle.bit_rows.specs.Pairs.{Union}
use Rattle.base_names.specs.Events.{Links, RowTo}
use Rattle.base_names.proofs.fixed.put_linked_from.Given as goal

abbrev pub invariant-loop-to : goal.invariant-loop-to
invariant-loop-to l =
    IsRelation l.target l.initial.target.count (Union (Has l.initial.target)
    (RowTo (Links l.events l.name) l.from l.to))
