use Rattle.command_answers.proofs.Answering.{log_said}
use Rattle.command_answers.proofs.texts.outcome_text.Goals as goal

pub returns : goal.returns
returns c =
    log_said c.outcome_log.result c.args.test.now c.args.model.now c.in_ok-outcome.outcome
    c.as_bytes.result.now c.in_ok-outcome.ensures c.as_bytes.ensures c.outcome_log.ensures
