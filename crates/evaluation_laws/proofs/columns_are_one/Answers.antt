use Rattle.evaluation_laws.proofs.Sole.{one_columns}
use Rattle.evaluation_laws.proofs.columns_are_one.Goals as goal

pub returns : goal.returns
returns c = one_columns c.args.role.now c.args.space.now
