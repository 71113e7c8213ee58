use Rattle.why_walks.proofs.Meant.{has_walks}
use Rattle.why_walks.proofs.laws.pairs_have_walks.Goals as goal

pub returns : goal.returns
returns c = has_walks
