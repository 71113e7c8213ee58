use Rattle.bench_nodes.specs.Nodes.{users}
use Rattle.bench_nodes.proofs.Lists.{rest_at}
use Rattle.bench_nodes.proofs.table.NodeTable.user_at.Goals as goal

pub returns-clause-rest : goal.returns-clause-rest
returns-clause-rest c =
    rest_at (users c.args.self.now c.args.node) c.args.i c.user_node.result c.user_node.ensures
