use Rattle.evaluation_laws.proofs.Saying.{one_outcome}
use Rattle.evaluation_laws.proofs.outcome_is_one.Goals as goal

pub returns : goal.returns
returns c = one_outcome c.args.test.now c.args.model.now
