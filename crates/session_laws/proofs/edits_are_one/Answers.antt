use Rattle.session_laws.proofs.Refusals.{one_verdict}
use Rattle.session_laws.proofs.edits_are_one.Goals as goal

pub returns : goal.returns
returns c = one_verdict
