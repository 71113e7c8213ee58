use Rattle.std.proofs.Common.{◌≡◌, take}
use Rattle.std.specs.Prelude.{fold}
use Rattle.board.specs.Operations.{open_cell}
use Rattle.board.proofs.changes.open_cells.Given as goal

abbrev pub invariant-loop-at : goal.invariant-loop-at
invariant-loop-at l = l.rows.items ≡ fold open_cell l.initial.rows.items (take l.at-index l.cells)
