use Rattle.meaning_answers.proofs.DrawingsAnswered.{report_said}
use Rattle.meaning_answers.proofs.whys.draw_report.Goals as goal

pub returns-clause-report : goal.returns-clause-report
returns-clause-report c = report_said _ _ _ c.draw_report.result c.draw_report.ensures.report
