use Rattle.why_forbidden.proofs.Finding.{has_same_starts}
use Rattle.why_forbidden.proofs.laws.steps_are_same.Goals as goal

pub returns : goal.returns
returns c = has_same_starts
