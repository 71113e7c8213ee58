use Rattle.std.proofs.Common.{arith}
use Rattle.bench_nodes.proofs.Lists.{used_many}
use Rattle.bench_nodes.proofs.table.NodeTable.used_count.Goals as goal

pub returns : goal.returns
returns c =
    used_many c.args.self.now.slots.items c.args.self.now.tests.items c.len.result c.len-2.result
    (omega (arith, c.len.ensures, c.args.self.now.tests.ok.0))
    (omega (arith, c.len-2.ensures, c.args.self.now.slots.ok.0))
