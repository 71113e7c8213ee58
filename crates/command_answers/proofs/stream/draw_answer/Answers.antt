use Rattle.command_answers.proofs.Picturing.{pictured}
use Rattle.command_answers.proofs.stream.draw_answer.Goals as goal

pub returns : goal.returns
returns c =
    pictured c.answer_of.result c.draw_report.result c.args.request c.args.model.now
    c.args.test.now c.draw_report.ensures.report c.draw_report.ensures.refusal c.answer_of.ensures
