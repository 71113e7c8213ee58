use Rattle.bench_edits.proofs.ModelEdits.{edits_keep}
use Rattle.bench_edits.proofs.laws.edits_keep_parts.Goals as goal

pub returns : goal.returns
returns c = edits_keep
