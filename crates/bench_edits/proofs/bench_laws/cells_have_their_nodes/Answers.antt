use Rattle.bench_edits.proofs.Nodes.{are_nodes}
use Rattle.bench_edits.proofs.bench_laws.cells_have_their_nodes.Goals as goal

pub returns : goal.returns
returns c = are_nodes
