use Rattle.bench_nodes.specs.Nodes.{inputs}
use Rattle.bench_nodes.proofs.Lists.{rest_at}
use Rattle.bench_nodes.proofs.table.NodeTable.input_at.Goals as goal

pub returns-clause-rest : goal.returns-clause-rest
returns-clause-rest c =
    rest_at (inputs c.args.self.now c.args.node) c.args.i c.input.result c.input.ensures
