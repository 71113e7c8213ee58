use Rattle.std.proofs.Common.{◌≡◌, drop}
use Rattle.tests_layers.specs.Rows.{row_of}
use Rattle.tests_layers.proofs.benches.rows.find_row.Given as goal

abbrev pub invariant-loop-row : goal.invariant-loop-row
invariant-loop-row l = row_of l.name (drop l.row-index l.rows) ≡ row_of l.name l.rows
