use Rattle.bench_values.proofs.OneVerdict.{one_verdict}
use Rattle.bench_values.proofs.laws.verdict_is_one.Goals as goal

pub returns : goal.returns
returns c = one_verdict
