use Rattle.std.proofs.Common.{◌≡◌, map, take}
use Rattle.outcome_texts.specs.Columns.{row_of}
use Rattle.board.specs.Listing.{row_under}
use Rattle.board.proofs.listing.rows_under.Given as goal

abbrev pub invariant-loop-row : goal.invariant-loop-row
invariant-loop-row l =
    map row_of l.under.items ≡ map (row_under l.columns l.models) (take l.row-index l.rows)
