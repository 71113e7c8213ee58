use Rattle.why_forbidden.proofs.Finding.{walk_back}
use Rattle.why_forbidden.proofs.laws.walk_back_is_found.Goals as goal

pub returns : goal.returns
returns c = walk_back
