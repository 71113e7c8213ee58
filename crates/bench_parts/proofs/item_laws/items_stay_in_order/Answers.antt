use Rattle.bench_parts.proofs.ItemRows.{items_in_order}
use Rattle.bench_parts.proofs.item_laws.items_stay_in_order.Goals as goal

pub returns : goal.returns
returns c = items_in_order
