use Rattle.bench_edits.proofs.Standing.{needed}
use Rattle.bench_edits.proofs.bench_laws.used_nodes_are_needed.Goals as goal

pub returns : goal.returns
returns c = needed
