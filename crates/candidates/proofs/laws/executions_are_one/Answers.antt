use Rattle.candidates.proofs.Sole.{executions_sole}
use Rattle.candidates.proofs.laws.executions_are_one.Goals as goal

pub returns : goal.returns
returns c = λ initial threads V xs ys h k. executions_sole initial threads V xs ys h k
