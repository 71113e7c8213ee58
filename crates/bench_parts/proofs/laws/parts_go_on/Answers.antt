use Rattle.bench_parts.proofs.Since.{parts_go_on}
use Rattle.bench_parts.proofs.laws.parts_go_on.Goals as goal

pub returns : goal.returns
returns c = parts_go_on
