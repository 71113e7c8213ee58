use Rattle.std.proofs.Common.{take}
use Rattle.bit_rows.specs.Relation.{Has, IsRelation}
use Rattle.bit_rows.specs.Pairs.{Union}
use Rattle.base_names.specs.Events.{Below, ListedPairs}
use Rattle.base_names.proofs.fixed.put_pairs.Given as goal

abbrev pub invariant-loop-from : goal.invariant-loop-from
invariant-loop-from l =
    IsRelation l.target l.initial.target.count (Union (Has l.initial.target)
    (Below l.initial.target.count (ListedPairs (take l.from-index l.pairs))))
