use Rattle.whole_outcomes.proofs.Below.{columns_below}
use Rattle.whole_outcomes.proofs.columns_are_below.Goals as goal

pub returns : goal.returns
returns c = columns_below c.args.recursive c.args.bodies.now
