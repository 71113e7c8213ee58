use Rattle.evaluation_laws.proofs.Deciding.{decide}
use Rattle.evaluation_laws.proofs.SliceModels.{items_suffice}
use Rattle.board.proofs.Legal as proof
use Rattle.board.proofs.laws.legal_is_right.Goals as goal

pub returns : goal.returns
returns c = proof.legal_is_right (items_suffice decide)
