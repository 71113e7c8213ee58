use Rattle.bench_parts.proofs.ItemRows.{items_do}
use Rattle.bench_parts.proofs.item_laws.items_do_what_is_read.Goals as goal

pub returns : goal.returns
returns c = items_do
