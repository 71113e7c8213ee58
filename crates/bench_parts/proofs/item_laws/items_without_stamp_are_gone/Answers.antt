use Rattle.bench_parts.proofs.ItemRows.{items_gone}
use Rattle.bench_parts.proofs.item_laws.items_without_stamp_are_gone.Goals as goal

pub returns : goal.returns
returns c = items_gone
