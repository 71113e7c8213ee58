use Rattle.session_views.proofs.Counts.{shows_own}
use Rattle.session_views.proofs.laws.own_texts_are_shown.Goals as goal

pub returns : goal.returns
returns c = λ ops made t k legal lt e. shows_own ops made t k legal lt e
