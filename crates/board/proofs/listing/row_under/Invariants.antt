use Rattle.std.proofs.Common.{◌≡◌, map, take}
use Rattle.outcome_texts.specs.Cells.{cell_of}
use Rattle.board.specs.Listing.{row_cell}
use Rattle.board.proofs.listing.row_under.Given as goal

abbrev pub invariant-loop-model : goal.invariant-loop-model
invariant-loop-model l =
    map cell_of l.cells.items ≡ map (row_cell l.columns l.row) (take l.model-index l.models)
