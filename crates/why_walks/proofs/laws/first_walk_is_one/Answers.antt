use Rattle.why_walks.proofs.First.{one_walk}
use Rattle.why_walks.proofs.laws.first_walk_is_one.Goals as goal

pub returns : goal.returns
returns c = one_walk
