use Rattle.std.proofs.Common.{refl}
use Rattle.why_forbidden.proofs.checks.check_of.Goals as goal

pub returns-in_ok-checked-in-None-clause-checked : goal.returns-in_ok-checked-in-None-clause-checked
returns-in_ok-checked-in-None-clause-checked c =
    λ items at. c.in_ok-checked-in-None.ensures.checked items at c.in-Check.is c.in-None.is

pub returns-in_ok-checked-in-None-clause-all : goal.returns-in_ok-checked-in-None-clause-all
returns-in_ok-checked-in-None-clause-all c =
    rw (c.in-Check.is, c.in-None.is, c.in_ok-checked-in-None.ensures.item) refl
