use Rattle.bench_nodes.proofs.Touching.{unlike_keys}
use Rattle.bench_nodes.proofs.touched.are_same_keys.Goals as goal

pub returns-then-a-b : goal.returns-then-a-b
returns-then-a-b c = unlike_keys c.args.a.now c.args.b.now c.if-a-b.true
