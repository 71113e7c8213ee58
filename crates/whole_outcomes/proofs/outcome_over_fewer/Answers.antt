use Rattle.whole_outcomes.proofs.Counted.{outcome_kept}
use Rattle.whole_outcomes.proofs.outcome_over_fewer.Goals as goal

pub returns : goal.returns
returns c = outcome_kept
