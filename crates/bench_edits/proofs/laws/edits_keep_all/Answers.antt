use Rattle.bench_edits.proofs.KeepAll.{keeps_all}
use Rattle.bench_edits.proofs.laws.edits_keep_all.Goals as goal

pub returns : goal.returns
returns c = keeps_all
