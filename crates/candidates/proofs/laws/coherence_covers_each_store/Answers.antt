use Rattle.candidates.proofs.Covering.{covers}
use Rattle.candidates.proofs.laws.coherence_covers_each_store.Goals as goal

pub returns : goal.returns
returns c = covers c.args.test.now
