use Rattle.bench_parts.proofs.ItemRows.{items_are_stamped}
use Rattle.bench_parts.proofs.item_laws.item_rows_are_stamped.Goals as goal

pub returns : goal.returns
returns c = items_are_stamped
