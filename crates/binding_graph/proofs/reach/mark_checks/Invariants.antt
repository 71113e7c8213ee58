use Rattle.std.proofs.Common.{◌<◌}
use Rattle.binding_graph.specs.Reach.{Marks, IsCheckAt}
use Rattle.binding_graph.proofs.reach.mark_checks.Given as goal

abbrev pub invariant-loop-index : goal.invariant-loop-index
invariant-loop-index l =
    Marks (λ k. (k < l.index) × IsCheckAt l.items k) l.initial.marks.items l.marks.items
    l.initial.waiting.items l.waiting.items
