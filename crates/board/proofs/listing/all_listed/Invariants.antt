use Rattle.std.proofs.Common.{◌≡◌, map, take}
use Rattle.std.specs.List.{flat_map}
use Rattle.board.specs.Listing.{listed_cell, row_listed}
use Rattle.board.proofs.listing.all_listed.Given as goal

abbrev pub invariant-loop-row : goal.invariant-loop-row
invariant-loop-row l =
    map listed_cell l.cells.items ≡ flat_map (row_listed l.columns) (take l.row-index l.rows)
