use Rattle.std.proofs.Common.{codes}
use Rattle.meaning.proofs.examples.two_events_relate.Goals as goal
use Rattle.std.proofs.Common.{arith, inl, refl}
use Rattle.meaning.specs.Examples.{body_of_p}

pub returns-clause-least : goal.returns-clause-least
returns-clause-least c = λ choice closed.
    closed (codes "p", body_of_p) (0, omega arith, refl) 0 1 (inl (refl, refl))
