use Rattle.evaluation_laws.proofs.Deciding.{decide}
use Rattle.evaluation_laws.proofs.items_decide.Goals as goal

pub returns : goal.returns
returns c = decide
