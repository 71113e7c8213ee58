use Rattle.std.proofs.Common.{◌≡◌, take, map}
use Rattle.outcome_texts.specs.Columns.{row_of}
use Rattle.outcome_texts.specs.Differences.{pair_of}
use Rattle.session_answers.specs.Rows.{pair_in}
use Rattle.session_views.proofs.rows.row_pairs.Given as goal

abbrev pub invariant-loop-row : goal.invariant-loop-row
invariant-loop-row l =
    map pair_of l.pairs.items ≡ map pair_in (map row_of (take l.row-index l.rows))
