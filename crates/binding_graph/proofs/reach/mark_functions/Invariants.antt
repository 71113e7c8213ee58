use Rattle.std.proofs.Common.{take, Contains}
use Rattle.binding_graph.specs.Reach.{Marks}
use Rattle.binding_graph.proofs.reach.mark_functions.Given as goal

abbrev pub invariant-loop-function : goal.invariant-loop-function
invariant-loop-function l =
    Marks (Contains (take l.function-index l.functions)) l.initial.marks.items l.marks.items
    l.initial.waiting.items l.waiting.items
