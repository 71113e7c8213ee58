use Rattle.std.proofs.Common.{take}
use Rattle.meaning_plain.specs.Lists.{RelationOf, HasPairs}
use Rattle.meaning_plain.proofs.Paths.{PathBy}
use Rattle.meaning_plain.proofs.relations.transitive.Given as goal

abbrev pub invariant-loop-pair : goal.invariant-loop-pair
invariant-loop-pair l =
    HasPairs (PathBy (take l.pair-index l.pairs) (RelationOf l.pairs)) l.closed.items
