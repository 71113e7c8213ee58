use Rattle.bench_edits.proofs.ModelEdits.{edits_go_on}
use Rattle.bench_edits.proofs.laws.edits_go_on.Goals as goal

pub returns : goal.returns
returns c = edits_go_on
