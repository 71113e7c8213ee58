use Rattle.session_views.proofs.Counts.{knows_nothing}
use Rattle.session_views.proofs.laws.nothing_is_known.Goals as goal

pub returns : goal.returns
returns c = knows_nothing
