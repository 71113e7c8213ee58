use Rattle.bench_edits.proofs.FromScratch.{fault_scratch}
use Rattle.bench_edits.proofs.node_laws.fault_is_from_scratch.Goals as goal

pub returns : goal.returns
returns c = fault_scratch c.args.test.now c.args.model.now c.args.outcome.now
