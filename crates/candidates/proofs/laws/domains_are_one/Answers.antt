use Rattle.candidates.proofs.OneOutcome.{one_domain}
use Rattle.candidates.proofs.laws.domains_are_one.Goals as goal

pub returns : goal.returns
returns c = one_domain c.args.test.now
