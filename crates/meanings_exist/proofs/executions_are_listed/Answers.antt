use Rattle.meanings_exist.proofs.Executions.{executions_listed}
use Rattle.meanings_exist.proofs.executions_are_listed.Goals as goal

pub returns : goal.returns
returns c = λ t. executions_listed t
