use Rattle.std.proofs.Common.{arith}
use Rattle.bench_nodes.proofs.Lookups.{place_within}
use Rattle.bench_nodes.proofs.table.NodeTable.test_index.Goals as goal

pub returns-clause-within : goal.returns-clause-within
returns-clause-within c =
    let within = place_within c.args.self.now.tests.items c.args.id in
    omega (arith, within, c.test_index.ensures)
