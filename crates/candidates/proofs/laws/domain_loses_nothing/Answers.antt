use Rattle.candidates.proofs.NoLocation.{over_any_domain}
use Rattle.candidates.proofs.laws.domain_loses_nothing.Goals as goal

pub returns : goal.returns
returns c = λ p V x h d shows is. over_any_domain c.args.test.now p V h d x is
