use Rattle.evaluation_laws.proofs.Deciding.{decide}
use Rattle.evaluation_laws.proofs.SliceModels.{items_suffice}
use Rattle.evaluation_laws.proofs.slices_decide.Goals as goal

pub returns : goal.returns
returns c = items_suffice decide
