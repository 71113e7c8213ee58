use Rattle.std.proofs.Common.{◌≡◌, take, map}
use Rattle.outcome_texts.specs.Columns.{row_of}
use Rattle.session_answers.specs.Rows.{row_said}
use Rattle.session_answers.proofs.rows.test_rows.Given as goal

abbrev pub invariant-loop-row : goal.invariant-loop-row
invariant-loop-row l = map row_of l.found.items ≡ map row_said (take l.row-index l.rows)
