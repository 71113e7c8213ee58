use Rattle.bench_parts.proofs.ItemKinds.{have_kinds}
use Rattle.bench_parts.proofs.item_laws.items_have_their_kinds.Goals as goal

pub returns : goal.returns
returns c = have_kinds
