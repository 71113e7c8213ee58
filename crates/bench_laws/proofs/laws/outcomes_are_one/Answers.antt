use Rattle.bench_laws.proofs.Outcomes.{one_scratch}
use Rattle.bench_laws.proofs.laws.outcomes_are_one.Goals as goal

pub returns : goal.returns
returns c = one_scratch
