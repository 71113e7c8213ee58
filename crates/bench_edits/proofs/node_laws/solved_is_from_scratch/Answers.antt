use Rattle.bench_edits.proofs.FromScratch.{solved_scratch}
use Rattle.bench_edits.proofs.node_laws.solved_is_from_scratch.Goals as goal

pub returns : goal.returns
returns c = solved_scratch c.args.test.now c.args.model.now
