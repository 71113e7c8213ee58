use Rattle.std.proofs.Common.{ℕ, ◌<◌, ◌↔◌, AllPairs, Contains}
use Rattle.binding_graph.specs.Reach.{IsMarked}
use Rattle.binding_graph.proofs.reach.marked_indexes.Given as goal

abbrev pub invariant-loop-index : goal.invariant-loop-index
invariant-loop-index l =
    AllPairs (λ a b. a < b) l.indexes.items
    × ((k : ℕ) → Contains l.indexes.items k ↔ ((k < l.index) × IsMarked l.marks k))
