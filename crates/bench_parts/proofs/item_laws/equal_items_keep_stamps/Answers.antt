use Rattle.bench_parts.proofs.ItemRows.{items_keep_stamps}
use Rattle.bench_parts.proofs.item_laws.equal_items_keep_stamps.Goals as goal

pub returns : goal.returns
returns c = items_keep_stamps
