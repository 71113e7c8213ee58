use Rattle.bench_parts.proofs.ItemRows.{items_held}
use Rattle.bench_parts.proofs.item_laws.read_items_are_held.Goals as goal

pub returns : goal.returns
returns c = items_held
