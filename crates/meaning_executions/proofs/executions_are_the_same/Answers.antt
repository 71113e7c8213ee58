use Rattle.meaning_executions.proofs.Matching.{same_executions}
use Rattle.meaning_executions.proofs.executions_are_the_same.Goals as goal

pub returns : goal.returns
returns c t p of V domain = same_executions t p of V domain
