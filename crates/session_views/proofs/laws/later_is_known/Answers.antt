use Rattle.session_views.proofs.Counts.{knows_later}
use Rattle.session_views.proofs.laws.later_is_known.Goals as goal

pub returns : goal.returns
returns c = λ seen later made t p k. knows_later seen later made t p k
