use Rattle.std.proofs.Common.{List, [], drop, reverse}
use Rattle.binding_graph.specs.Trees.{SetTree, RelTree}
use Rattle.cat_machine.specs.Named.{EventsNamed, PairsNamed}
use Rattle.cat_machine.specs.Running.{BuildsTrees, AreSets, AreRels}
use Rattle.cat_machine.proofs.machine.Machine.run.Given as goal

abbrev pub invariant-loop-step : goal.invariant-loop-step
invariant-loop-step l =
    (s_end : List SetTree) (r_end : List RelTree) → BuildsTrees l.steps [] [] s_end r_end
    → (ss : List SetTree) × (es : List RelTree)
    × BuildsTrees (drop l.step-index l.steps) ss es s_end r_end
    × AreSets l.names.base.now.count (EventsNamed l.names) ss (reverse l.self.sets.items)
    × AreRels l.names.base.now.count (EventsNamed l.names) (PairsNamed l.names) es l.self.relations
