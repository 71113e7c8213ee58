use Rattle.std.proofs.Common.{◌+◌, not, count_by, length}
use Rattle.binding_graph.specs.Reach.{AreSpread}
use Rattle.binding_graph.proofs.reach.spread.Given as goal

abbrev pub invariant-loop-index : goal.invariant-loop-index
invariant-loop-index l =
    AreSpread l.items l.initial.marks.items l.initial.waiting.items
    → AreSpread l.items l.marks.items l.waiting.items

abbrev pub decreases-loop-index : goal.decreases-loop-index
decreases-loop-index l = count_by not l.marks.items + length l.waiting.items
