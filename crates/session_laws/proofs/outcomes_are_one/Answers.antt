use Rattle.session_laws.proofs.Models.{one_outcome_said}
use Rattle.session_laws.proofs.outcomes_are_one.Goals as goal

pub returns : goal.returns
returns c = one_outcome_said
