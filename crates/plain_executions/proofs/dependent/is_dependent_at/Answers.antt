use Rattle.plain_executions.proofs.Depending.{depends_at}
use Rattle.plain_executions.proofs.dependent.is_dependent_at.Goals as goal

pub returns : goal.returns
returns c =
    depends_at c.in_ok-found.found c.args.first.0 c.args.second.0 _ c.if-thread-other.false
    c.in_ok-found.ensures
