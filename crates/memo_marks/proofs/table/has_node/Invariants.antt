use Rattle.std.proofs.Common.{◌≡◌, drop}
use Rattle.memo_core.specs.Tests.{has_node}
use Rattle.memo_marks.proofs.table.has_node.Given as goal

abbrev pub invariant-loop-other : goal.invariant-loop-other
invariant-loop-other l = has_node l.node (drop l.other-index l.nodes) ≡ has_node l.node l.nodes
