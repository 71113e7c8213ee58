use Rattle.whole_outcomes.proofs.Wholes.{columns_whole}
use Rattle.whole_outcomes.proofs.whole_columns_exist.Goals as goal

pub returns : goal.returns
returns c = columns_whole c.args.recursive c.args.bodies.now
