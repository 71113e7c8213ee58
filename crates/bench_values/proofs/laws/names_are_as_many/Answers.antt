use Rattle.bench_values.proofs.Counting.{makes_many}
use Rattle.bench_values.proofs.laws.names_are_as_many.Goals as goal

pub returns : goal.returns
returns c = makes_many
