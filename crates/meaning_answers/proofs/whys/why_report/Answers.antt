use Rattle.meaning_answers.proofs.Answered.{report_said}
use Rattle.meaning_answers.proofs.whys.why_report.Goals as goal

pub returns-clause-report : goal.returns-clause-report
returns-clause-report c = report_said _ _ _ c.why_report.result c.why_report.ensures.report
