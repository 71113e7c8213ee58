use Rattle.bench_edits.proofs.Nodes.{verdict_used}
use Rattle.bench_edits.proofs.bench_laws.verdicts_are_used.Goals as goal

pub returns : goal.returns
returns c = verdict_used
