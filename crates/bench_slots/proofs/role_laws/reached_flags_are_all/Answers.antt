use Rattle.bench_slots.proofs.Reached.{all_flags}
use Rattle.bench_slots.proofs.role_laws.reached_flags_are_all.Goals as goal

pub returns : goal.returns
returns c = all_flags
