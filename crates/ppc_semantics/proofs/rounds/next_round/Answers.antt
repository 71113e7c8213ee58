use Rattle.ppc_semantics.proofs.Bounds.{next_is}
use Rattle.ppc_semantics.proofs.rounds.next_round.Goals as goal

pub returns-in-Ok-clause-round : goal.returns-in-Ok-clause-round
returns-in-Ok-clause-round c =
    next_is c.args.program.now c.args.values.now _ c.in-Ok.ensures.set c.in-Ok.ensures.added
