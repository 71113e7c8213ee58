use Rattle.std.proofs.Common.{[], arith}
use Rattle.why_labels.specs.Labels.{NoName}
use Rattle.why_forbidden.proofs.labels.innermost_within.Goals as goal

pub returns-in-Predefined : goal.returns-in-Predefined
returns-in-Predefined c = rw c.in-Predefined.is (NoName [] (λ j lt d h. absurd (omega (arith, lt))))

pub returns-in-Bound : goal.returns-in-Bound
returns-in-Bound c = rw c.in-Bound.is c.innermost_in.ensures
