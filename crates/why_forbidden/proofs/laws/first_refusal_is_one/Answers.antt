use Rattle.why_forbidden.proofs.Finding.{one_first}
use Rattle.why_forbidden.proofs.laws.first_refusal_is_one.Goals as goal

pub returns : goal.returns
returns c = one_first
