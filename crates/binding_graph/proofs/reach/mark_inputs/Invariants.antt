use Rattle.std.proofs.Common.{take, map, Contains}
use Rattle.binding_graph.specs.Reach.{Marks}
use Rattle.binding_graph.proofs.reach.mark_inputs.Given as goal

abbrev pub invariant-loop-input : goal.invariant-loop-input
invariant-loop-input l =
    Marks (Contains (map (λ i. i.item) (take l.input-index l.inputs))) l.initial.marks.items
    l.marks.items l.initial.waiting.items l.waiting.items
