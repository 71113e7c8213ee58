use Rattle.meaning_executions.proofs.Executed as proofs
use Rattle.meaning_executions.proofs.runs_depend_alike.Goals as goal

pub returns : goal.returns
returns c = proofs.runs_depend_alike
