use Rattle.bench_parts.proofs.ItemRows.{parts_go_on}
use Rattle.bench_parts.proofs.item_laws.item_parts_go_on.Goals as goal

pub returns : goal.returns
returns c = parts_go_on
