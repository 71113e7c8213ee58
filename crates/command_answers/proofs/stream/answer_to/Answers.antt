use Rattle.command_answers.proofs.Answering.{evaluated}
use Rattle.command_answers.proofs.stream.answer_to.Goals as goal

pub returns : goal.returns
returns c =
    evaluated c.answer_of.result c.eval.result c.args.model.now c.args.test.now c.eval.ensures.log
    c.eval.ensures.refusal c.answer_of.ensures
