use Rattle.bench_items.proofs.Naming.{holds_names}
use Rattle.bench_items.proofs.laws.histories_hold_names.Goals as goal

pub returns : goal.returns
returns c = holds_names
