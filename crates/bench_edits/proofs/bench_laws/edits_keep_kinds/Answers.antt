use Rattle.bench_edits.proofs.ItemKinds.{kinds_after}
use Rattle.bench_edits.proofs.bench_laws.edits_keep_kinds.Goals as goal

pub returns : goal.returns
returns c = kinds_after
