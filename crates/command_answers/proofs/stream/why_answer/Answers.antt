use Rattle.command_answers.proofs.Answering.{explained}
use Rattle.command_answers.proofs.stream.why_answer.Goals as goal

pub returns : goal.returns
returns c =
    explained c.answer_of.result c.why_report.result c.args.asked c.args.model.now c.args.test.now
    c.why_report.ensures.report c.why_report.ensures.refusal c.answer_of.ensures
