use Rattle.std.proofs.Common.{sym}
use Rattle.bench_nodes.proofs.Lists.{length-keys_at}
use Rattle.bench_nodes.proofs.nodes.key_count.Goals as goal

pub returns : goal.returns
returns c = sym (length-keys_at c.args._test c.args.keys.now)
