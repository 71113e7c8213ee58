use Rattle.std.proofs.Common.{◌≡◌, drop}
use Rattle.memo_core.specs.Graph.{input_nodes}
use Rattle.memo_core.specs.Tests.{has_node}
use Rattle.memo_marks.proofs.table.reads.Given as goal

abbrev pub invariant-loop-i : goal.invariant-loop-i
invariant-loop-i g l =
    let inputs = (g.T.Texts.net l.texts).inputs l.user in
    has_node l.node (input_nodes (drop l.i inputs)) ≡ has_node l.node (input_nodes inputs)
