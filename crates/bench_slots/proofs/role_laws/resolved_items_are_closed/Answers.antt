use Rattle.bench_slots.proofs.RoleItems.{resolved_closed}
use Rattle.bench_slots.proofs.role_laws.resolved_items_are_closed.Goals as goal

pub returns : goal.returns
returns c = resolved_closed
