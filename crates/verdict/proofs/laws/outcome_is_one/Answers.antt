use Rattle.verdict.proofs.Uniqueness.{one_outcome}
use Rattle.verdict.proofs.laws.outcome_is_one.Goals as goal

pub returns : goal.returns
returns c = one_outcome
