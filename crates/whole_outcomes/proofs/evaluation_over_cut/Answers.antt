use Rattle.whole_outcomes.proofs.Outcomes.{evaluation_kept}
use Rattle.whole_outcomes.proofs.evaluation_over_cut.Goals as goal

pub returns : goal.returns
returns c = evaluation_kept
