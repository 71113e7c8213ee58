use Rattle.bench_parts.proofs.Equality.{value_exact}
use Rattle.bench_parts.proofs.laws.equal_values_are_same.Goals as goal

pub returns : goal.returns
returns c = value_exact
