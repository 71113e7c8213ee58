use Rattle.std.proofs.Common.{arith}
use Rattle.bench_nodes.proofs.Lists.{part_of_thread, part_of_locations}
use Rattle.bench_nodes.proofs.nodes.space_part.Goals as goal

pub returns-then-i-len : goal.returns-then-i-len
returns-then-i-len c =
    part_of_thread c.args.test.now c.args.i c.if-i-eq0.false (omega (
      arith,
      c.if-i-len.true,
      c.len.ensures,
      c.args.test.now.threads.ok.0,
    ))

pub returns-else-i-len : goal.returns-else-i-len
returns-else-i-len c =
    part_of_locations c.args.test.now c.args.i c.requires (omega (
      arith,
      c.if-i-len.false,
      c.len.ensures,
      c.args.test.now.threads.ok.0,
    ))
