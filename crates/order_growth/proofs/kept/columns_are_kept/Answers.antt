use Rattle.order_growth.proofs.Keeping.{columns_kept}
use Rattle.order_growth.proofs.kept.columns_are_kept.Goals as goal

pub returns : goal.returns
returns c = columns_kept c.args.role.now c.args.other.now c.args.space.now c.args.another.now
