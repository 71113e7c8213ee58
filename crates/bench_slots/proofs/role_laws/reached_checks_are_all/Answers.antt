use Rattle.bench_slots.proofs.Reached.{all_answers}
use Rattle.bench_slots.proofs.role_laws.reached_checks_are_all.Goals as goal

pub returns : goal.returns
returns c = all_answers
