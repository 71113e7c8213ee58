use Rattle.meaning_executions.proofs.Conditions.{all_meant}
use Rattle.meaning_executions.proofs.condition_is_meant.Goals as goal

pub returns : goal.returns
returns c = λ t words y e s. all_meant t words y e s
