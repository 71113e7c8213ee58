use Rattle.std.proofs.Common.{◌≡◌, take, map}
use Rattle.outcome_texts.specs.Differences.{pair_of}
use Rattle.session_answers.specs.Rows.{row_said}
use Rattle.session_answers.specs.Rows.{pair_in}
use Rattle.session_answers.proofs.rows.test_pairs.Given as goal

abbrev pub invariant-loop-row : goal.invariant-loop-row
invariant-loop-row l =
    map pair_of l.pairs.items ≡ map pair_in (map row_said (take l.row-index l.rows))
