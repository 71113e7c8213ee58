use Rattle.bit_rows.specs.Relation.{Has, IsRelation}
use Rattle.bit_rows.specs.Pairs.{Union}
use Rattle.base_names.specs.Events.{Links, Before, RowsTo}
use Rattle.base_names.proofs.fixed.put_linked.Given as goal

abbrev pub invariant-loop-from : goal.invariant-loop-from
invariant-loop-from l =
    IsRelation l.target l.initial.target.count (Union (Has l.initial.target)
    (RowsTo (Before l.initial.target.count (Links l.events l.name)) l.from))
