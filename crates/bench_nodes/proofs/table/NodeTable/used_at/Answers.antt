use Rattle.bench_nodes.specs.Nodes.{used}
use Rattle.bench_nodes.proofs.Lists.{rest_at}
use Rattle.bench_nodes.proofs.table.NodeTable.used_at.Goals as goal

pub returns-clause-rest : goal.returns-clause-rest
returns-clause-rest c =
    rest_at (used c.args.self.now) c.args.i c.used_node.result (rw
    (c.deref.ensures.value, c.deref-2.ensures.value) at c.used_node.ensures)
