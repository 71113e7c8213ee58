use Rattle.meaning_executions.proofs.Bounds.{rounds_refused}
use Rattle.meaning_executions.proofs.rounds_are_alike.Goals as goal

pub returns : goal.returns
returns c t p of rounds = rounds_refused t p of rounds
