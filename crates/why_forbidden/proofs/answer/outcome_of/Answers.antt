use Rattle.std.proofs.Common.{arith}
use Rattle.why_forbidden.proofs.answer.outcome_of.Goals as goal

pub returns-in-None : goal.returns-in-None
returns-in-None c =
    absurd (omega (arith, c.requires.within, rw c.in-None.is at c.in_ok-execution.ensures.none))
