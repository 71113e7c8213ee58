use Rattle.std.proofs.Common.{◌≡◌, ◌++◌, map, take, drop}
use Rattle.board.specs.Operations.{narrower_row}
use Rattle.board.proofs.changes.drop_cells.Given as goal

abbrev pub invariant-loop-row : goal.invariant-loop-row
invariant-loop-row l =
    l.rows
    ≡ map (narrower_row l.at) (take l.row-index l.initial.rows) ++ drop l.row-index l.initial.rows
