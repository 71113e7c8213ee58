use Rattle.bench_values.proofs.PartTests.{of_each}
use Rattle.bench_values.proofs.laws.space_is_of_each_test.Goals as goal

pub returns : goal.returns
returns c = of_each
