use Rattle.std.proofs.Common.{◌≡◌, map, take}
use Rattle.outcome_texts.specs.Differences.{pair_of}
use Rattle.board.specs.Listing.{pair_under}
use Rattle.board.proofs.listing.pairs_under.Given as goal

abbrev pub invariant-loop-row : goal.invariant-loop-row
invariant-loop-row l =
    map pair_of l.pairs.items
    ≡ map (pair_under l.columns l.first l.second) (take l.row-index l.rows)
