use Rattle.ppc_semantics.proofs.Bounds.{first_is}
use Rattle.ppc_semantics.proofs.rounds.first_round.Goals as goal

pub returns-in-Ok-clause-round : goal.returns-in-Ok-clause-round
returns-in-Ok-clause-round c =
    first_is c.args.program.now _ c.in-Ok.ensures.set c.in-Ok.ensures.values
