use Rattle.evaluation_laws.proofs.Sole.{one_answers}
use Rattle.evaluation_laws.proofs.answers_are_one.Goals as goal

pub returns : goal.returns
returns c = one_answers c.args.role.now c.args.space.now
