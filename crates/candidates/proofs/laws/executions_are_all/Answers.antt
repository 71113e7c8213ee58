use Rattle.candidates.proofs.AllListed.{all_executions}
use Rattle.candidates.proofs.laws.executions_are_all.Goals as goal

pub returns : goal.returns
returns c = all_executions c.args.test.now
