use Rattle.meanings_exist.proofs.Domain.{rounds_listed}
use Rattle.meanings_exist.proofs.rounds_are_listed.Goals as goal

pub returns : goal.returns
returns c = λ t k. rounds_listed t k
