use Rattle.bench_edits.proofs.EqualParts.{equal_parts_keep}
use Rattle.bench_edits.proofs.laws.equal_parts_keep_stamps.Goals as goal

pub returns : goal.returns
returns c = equal_parts_keep
