use Rattle.bench_laws.proofs.OnlyReached.{only_reached_is_given, reached_bounds_given}
use Rattle.bench_laws.proofs.laws.only_reached_is_given.Goals as goal

pub returns : goal.returns
returns c = record { given = only_reached_is_given; bounded = reached_bounds_given }
