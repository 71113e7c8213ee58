use Rattle.bench_values.proofs.PartTests.{one_space}
use Rattle.bench_values.proofs.laws.space_is_one.Goals as goal

pub returns : goal.returns
returns c = one_space
