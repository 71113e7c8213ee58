use Rattle.bench_slots.proofs.Roles.{roles_again}
use Rattle.bench_slots.proofs.role_laws.roles_stay.Goals as goal

pub returns : goal.returns
returns c = roles_again
