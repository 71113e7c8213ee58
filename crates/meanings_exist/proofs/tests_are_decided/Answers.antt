use Rattle.meanings_exist.proofs.Limits.{refused_or_accepted}
use Rattle.meanings_exist.proofs.tests_are_decided.Goals as goal

pub returns : goal.returns
returns c = λ t. refused_or_accepted t
