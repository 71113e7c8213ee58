use Rattle.order_growth.proofs.Valued.{columns_grown}
use Rattle.order_growth.proofs.laws.columns_grow.Goals as goal

pub returns : goal.returns
returns c = columns_grown c.args.recursive c.args.bodies.now
