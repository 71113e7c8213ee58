use Rattle.std.proofs.Common.{◌≡◌, map, take}
use Rattle.board.specs.Operations.{wider_row}
use Rattle.board.proofs.changes.widened.Given as goal

abbrev pub invariant-loop-row : goal.invariant-loop-row
invariant-loop-row l = l.wider.items ≡ map wider_row (take l.row-index l.rows)
