use Rattle.std.proofs.Common.{◌≡◌, drop}
use Rattle.memo_core.specs.Tests.{has_node}
use Rattle.tests_layers.specs.Sheet.{cells_of}
use Rattle.tests_layers.proofs.benches.nodes.is_cell.Given as goal

abbrev pub invariant-loop-row : goal.invariant-loop-row
invariant-loop-row l =
    has_node l.node (cells_of (drop l.row-index l.rows)) ≡ has_node l.node (cells_of l.rows)
