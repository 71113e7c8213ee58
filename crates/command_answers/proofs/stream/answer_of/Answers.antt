use Rattle.command_answers.proofs.Answering.{fault_said}
use Rattle.command_answers.proofs.stream.answer_of.Goals as goal

pub returns-in-Err : goal.returns-in-Err
returns-in-Err c =
    fault_said c.refusal_of.result c.args.report c.in-Err.fault c.in-Err.is c.refusal_of.ensures
