use Rattle.dataflow.proofs.DomainLaw.{nothing_lost}
use Rattle.dataflow.proofs.laws.domain_loses_nothing.Goals as goal

pub returns : goal.returns
returns c = λ initial threads e x. nothing_lost initial threads e x
