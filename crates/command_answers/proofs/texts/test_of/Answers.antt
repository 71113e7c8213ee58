use Rattle.command_answers.proofs.Answering.{test_refused}
use Rattle.command_answers.proofs.texts.test_of.Goals as goal

pub returns-in-Err-Refused-clause-fault : goal.returns-in-Err-Refused-clause-fault
returns-in-Err-Refused-clause-fault c =
    test_refused c.args.text.now c.in-Err-Refused.field-0 c.in-Err-Refused.rule
    c.in-Err-Refused.offset c.in-Err-Refused.field-0-is c.in-Err-Refused.ensures.only
    c.in-Err-Refused.ensures.fault
