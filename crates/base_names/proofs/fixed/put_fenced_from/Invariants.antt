use Rattle.std.proofs.Common.{◌↔◌, IsTrue}
use Rattle.bit_rows.specs.Relation.{Has, IsRelation}
use Rattle.bit_rows.specs.Pairs.{Union}
use Rattle.base_names.specs.Events.{Fenced, FenceBelow, RowTo}
use Rattle.base_names.proofs.fixed.put_fenced_from.Given as goal

abbrev pub invariant-loop-to : goal.invariant-loop-to
invariant-loop-to l =
    (IsTrue l.is_fenced ↔ FenceBelow l.events l.kind l.from l.to)
    × IsRelation l.target l.initial.target.count (Union (Has l.initial.target)
    (RowTo (Fenced l.events l.kind) l.from l.to))
