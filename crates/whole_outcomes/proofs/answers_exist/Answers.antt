use Rattle.whole_outcomes.proofs.Answering.{answers_found}
use Rattle.whole_outcomes.proofs.answers_exist.Goals as goal

pub returns : goal.returns
returns c = answers_found c.args.check.now
