use Rattle.command_answers.proofs.Answering.{model_refused}
use Rattle.command_answers.proofs.texts.model_of.Goals as goal

pub returns-in-Err-Refused-clause-fault : goal.returns-in-Err-Refused-clause-fault
returns-in-Err-Refused-clause-fault c =
    model_refused c.args.text.now c.in-Err-Refused.field-0 c.in-Err-Refused.rule
    c.in-Err-Refused.offset c.in-Err-Refused.field-0-is c.in-Err-Refused.ensures.only
    c.in-Err-Refused.ensures.fault
