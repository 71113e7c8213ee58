use Rattle.bench_parts.proofs.Since.{since_stamped}
use Rattle.bench_parts.proofs.laws.since_goes_on.Goals as goal

pub returns : goal.returns
returns c = since_stamped
