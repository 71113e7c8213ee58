use Rattle.std.proofs.Common.{rules}
use Rattle.outcome_texts.specs.Cells.{cell_of}
use Rattle.text_values.specs.TestValue.{content_of}
use Rattle.session_answers.specs.Cells.{IsPlainCell}
use Rattle.session_answers.proofs.Joined.{zip_more}
use Rattle.session_views.specs.Asked.{asked_model}
use Rattle.session_views.proofs.Opening.{open_among}
use Rattle.session_views.proofs.rows.asked_row.Goals as goal

pub loop-asked-preserved : goal.loop-asked-preserved
loop-asked-preserved c =
    zip_more (IsPlainCell (content_of c.args.test.now)) asked_model cell_of c.args.models.now
    c.loop-asked.asked-index c.asked-item.result c.loop-asked.cells.items c.push.new.self.items
    c.in-Some.cell
    (search rules) (search rules) (search rules) c.loop-asked.invariant c.in-Some.ensures.settled

pub returns-in-None-clause-waits : goal.returns-in-None-clause-waits
returns-in-None-clause-waits c =
    open_among c.args.board.now c.args.models.now c.loop-asked.asked-index c.args.index
    c.asked-item.result (search rules) (search rules) c.in-None.ensures.waits
