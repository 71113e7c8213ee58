use Rattle.std.proofs.Common.{◌≡◌, List, length}
use Rattle.binding_graph.specs.Trees.{RelTree}
use Rattle.cat_machine.specs.Least.{AreMonotone}
use Rattle.cat_machine.specs.Named.{EventsIn, PairsOutside}
use Rattle.cat_machine.specs.Rising.{AreCodes, IsFixpointRound, rooms}
use Rattle.cat_machine.proofs.solver.Solver.solve.Given as goal

abbrev pub invariant-rounds : goal.invariant-rounds
invariant-rounds l =
    (length l.self.own.items ≡ length l.initial.self.own.items)
    × ((trees : List RelTree) → AreCodes trees l.bodies → AreMonotone trees
    → length l.initial.self.own.items ≡ length l.bodies
    → IsFixpointRound l.base.count (EventsIn l.base l.inputs l.candidate)
    (PairsOutside l.base l.inputs l.candidate) trees l.self.own.items l.names 0 0)

abbrev pub decreases-rounds : goal.decreases-rounds
decreases-rounds l = rooms l.self.own.items
