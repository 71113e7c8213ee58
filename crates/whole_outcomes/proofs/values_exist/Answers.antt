use Rattle.whole_outcomes.proofs.Bodies.{values_found}
use Rattle.whole_outcomes.proofs.values_exist.Goals as goal

pub returns : goal.returns
returns c = values_found c.args.recursive c.args.bodies.now
