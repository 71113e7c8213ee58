use Rattle.bench_edits.proofs.Nodes.{fault_is_node}
use Rattle.bench_edits.proofs.bench_laws.faulty_cells_have_their_verdict.Goals as goal

pub returns : goal.returns
returns c = fault_is_node
