use Rattle.bench_slots.proofs.Reached.{ordered_items}
use Rattle.bench_slots.proofs.role_laws.used_items_are_ordered.Goals as goal

pub returns : goal.returns
returns c = ordered_items
