use Rattle.candidates.proofs.OneOutcome.{one_outcome}
use Rattle.candidates.proofs.laws.outcomes_exclude_one_another.Goals as goal

pub returns : goal.returns
returns c = one_outcome c.args.test.now
