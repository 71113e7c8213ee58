use Rattle.bench_laws.proofs.Locked.{nodes_once, only_reached, reached_few}
use Rattle.bench_laws.proofs.laws.locked_jobs_are_few.Goals as goal

pub returns : goal.returns
returns c = record { once = nodes_once; reached = only_reached; bounded = reached_few }
