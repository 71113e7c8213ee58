use Rattle.bench_parts.proofs.Keeping.{used_are_there}
use Rattle.bench_parts.proofs.laws.used_nodes_are_there.Goals as goal

pub returns : goal.returns
returns c = used_are_there
