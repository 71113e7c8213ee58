use Rattle.std.proofs.Common.{rules, map, Option, IfSome, subst}
use Rattle.outcome_texts.specs.Columns.{row_of}
use Rattle.outcome_texts.specs.declared.table.TestRow.{TestRow}
use Rattle.text_values.specs.TestValue.{content_of}
use Rattle.session_answers.specs.Cells.{IsPlainRow}
use Rattle.session_answers.proofs.Joined.{zip_more}
use Rattle.session_views.specs.Asked.{asked_model}
use Rattle.session_views.proofs.rows.asked_rows.Goals as goal

pub loop-index-preserved : goal.loop-index-preserved
loop-index-preserved c =
    let row_is =
    subst
    (λ (o : Option TestRow). IfSome o (λ r. IsPlainRow (map asked_model c.args.models.now)
    (content_of c.index-tests-index.result) (row_of r))) c.in-Some.is
    c.in_ok-row.ensures.settled in
    zip_more (IsPlainRow (map asked_model c.args.models.now)) content_of row_of c.tests-tests.result.now
    c.loop-index.index c.index-tests-index.result c.loop-index.rows.items c.push.new.self.items
    c.in-Some.row
    (search rules) (search rules) (search rules) c.loop-index.invariant row_is
