use Rattle.base_names.proofs.Growing.{order_more}
use Rattle.base_names.proofs.changing.write_order.Goals as goal

pub loop-index-preserved : goal.loop-index-preserved
loop-index-preserved c = order_more _ _ _ c.loop-index.invariant c.put_later.ensures
