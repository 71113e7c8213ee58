use Rattle.from_scratch.proofs.Sole.{one_refusal}
use Rattle.from_scratch.proofs.laws.refusals_of_models_are_one.Goals as goal

pub returns : goal.returns
returns c = one_refusal c.args.test.now c.args.model.now
