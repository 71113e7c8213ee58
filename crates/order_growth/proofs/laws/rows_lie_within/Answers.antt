use Rattle.order_growth.proofs.Rows.{row_within}
use Rattle.order_growth.proofs.laws.rows_lie_within.Goals as goal

pub returns : goal.returns
returns c = row_within c.args.one.now c.args.other.now
