use Rattle.bench_parts.proofs.Since.{since_itself}
use Rattle.bench_parts.proofs.laws.since_is_reflexive.Goals as goal

pub returns : goal.returns
returns c = since_itself
