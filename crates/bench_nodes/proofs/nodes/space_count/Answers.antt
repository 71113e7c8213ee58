use Rattle.std.proofs.Common.{arith}
use Rattle.bench_nodes.proofs.Lists.{row_count}
use Rattle.bench_nodes.proofs.nodes.space_count.Goals as goal

pub returns-in-Some : goal.returns-in-Some
returns-in-Some c =
    row_count c.args.table.now.tests.items c.args.id c.in-Some.test.now c.len.result
    c.in-Some.ensures (omega (arith, c.len.ensures, c.in-Some.test.now.threads.ok.0))
