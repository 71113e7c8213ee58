use Rattle.std.proofs.Common.{arith}
use Rattle.bench_nodes.proofs.Lists.{length-keys_at}
use Rattle.bench_nodes.proofs.nodes.key_of.Goals as goal

pub key_in-requires : goal.key_in-requires
key_in-requires c = omega (arith, c.requires, length-keys_at c.args.test c.args.keys.now)
