use Rattle.std.proofs.Common.{take, map}
use Rattle.std.specs.List.{AllZip}
use Rattle.outcome_texts.specs.Columns.{row_of}
use Rattle.text_values.specs.TestValue.{content_of}
use Rattle.session_answers.specs.Cells.{IsPlainRow}
use Rattle.session_views.specs.Asked.{asked_model}
use Rattle.session_views.proofs.rows.asked_rows.Given as goal

abbrev pub invariant-loop-index : goal.invariant-loop-index
invariant-loop-index l =
    AllZip (IsPlainRow (map asked_model l.models)) (map content_of (take l.index l.tests))
    (map row_of l.rows.items)
