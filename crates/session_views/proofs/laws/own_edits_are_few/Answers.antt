use Rattle.session_views.proofs.Counts.{few_before}
use Rattle.session_views.proofs.laws.own_edits_are_few.Goals as goal

pub returns : goal.returns
returns c = λ e number seen later made t k h. few_before e number seen later made t k h
