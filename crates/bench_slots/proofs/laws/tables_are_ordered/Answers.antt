use Rattle.bench_slots.proofs.Ordered.{table_ordered}
use Rattle.bench_slots.proofs.laws.tables_are_ordered.Goals as goal

pub returns : goal.returns
returns c = table_ordered
