use Rattle.std.proofs.Common.{◌≡◌, ◌++◌, map, take}
use Rattle.board.specs.Listing.{listed_cell, cell_under}
use Rattle.board.proofs.listing.push_row.Given as goal

abbrev pub invariant-loop-column : goal.invariant-loop-column
invariant-loop-column l =
    map listed_cell l.cells.items
    ≡ map listed_cell l.initial.cells.items
    ++ map (cell_under l.columns l.row) (take l.column-index l.columns)
