use Rattle.std.proofs.Common.{◌≡◌, ◌<◌, ◌≤◌, ◌^◌, List}
use Rattle.binding_graph.specs.Trees.{RelTree}
use Rattle.cat_machine.specs.Least.{AreMonotone}
use Rattle.cat_machine.specs.Named.{EventsIn, PairsOutside}
use Rattle.cat_machine.specs.Rising.{AreCodes, IsFixpointRound, rooms}
use Rattle.cat_machine.proofs.solver.Solver.round.Given as goal

abbrev pub invariant-loop-position : goal.invariant-loop-position
invariant-loop-position l =
    ((l.grew ≡ 0 → ⊥) → rooms l.self.own.items < rooms l.initial.self.own.items)
    × (rooms l.self.own.items ≤ rooms l.initial.self.own.items)
    × (l.grew < 2 ^ 64)
    × ((trees : List RelTree) → AreCodes trees l.bodies → AreMonotone trees
    → IsFixpointRound l.base.count (EventsIn l.base l.inputs l.candidate)
    (PairsOutside l.base l.inputs l.candidate) trees l.initial.self.own.items l.names 0 0
    → IsFixpointRound l.base.count (EventsIn l.base l.inputs l.candidate)
    (PairsOutside l.base l.inputs l.candidate) trees l.self.own.items l.names l.position l.grew)
