use Rattle.command_answers.proofs.Reports.{rows_said}
use Rattle.command_answers.proofs.report.all_outcomes.Goals as goal

pub returns : goal.returns
returns g c =
    rows_said c.args.tests.now c.args.models.now c.deref.result.now c.test_outcomes.result
    (rw c.deref.ensures.value c.in_ok-texts.ensures) c.test_outcomes.ensures
