use Rattle.std.proofs.Common.{take, map}
use Rattle.std.specs.List.{AllZip}
use Rattle.outcome_texts.specs.Cells.{cell_of}
use Rattle.text_values.specs.TestValue.{content_of}
use Rattle.session_answers.specs.Cells.{IsPlainCell}
use Rattle.session_views.specs.Asked.{asked_model}
use Rattle.session_views.proofs.rows.asked_row.Given as goal

abbrev pub invariant-loop-asked : goal.invariant-loop-asked
invariant-loop-asked l =
    AllZip (IsPlainCell (content_of l.test)) (map asked_model (take l.asked-index l.models))
    (map cell_of l.cells.items)
