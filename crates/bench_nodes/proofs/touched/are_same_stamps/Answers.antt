use Rattle.bench_nodes.proofs.Touching.{unlike_stamps}
use Rattle.bench_nodes.proofs.touched.are_same_stamps.Goals as goal

pub returns-then-a-b : goal.returns-then-a-b
returns-then-a-b c = unlike_stamps c.args.a.now c.args.b.now c.if-a-b.true
