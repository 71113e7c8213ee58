use Rattle.std.proofs.Common.{arith, refl}
use Rattle.std.proofs.Common.{[], ◌∷◌, codes}
use Rattle.meaning.specs.Executions.{Does, Initial}
use Rattle.meaning.proofs.examples.a_small_test_is_read.Goals as goal

pub returns-clause-stores : goal.returns-clause-stores
returns-clause-stores c = (_, refl, (refl, (0, omega arith, refl)))

pub returns-clause-ends : goal.returns-clause-ends
returns-clause-ends c = (
  (
    _,
    Initial (codes "x") ∷ [],
    Does 0 1,
    (0, omega arith, refl),
    refl,
    (_, refl, (refl, (0, omega arith, refl))),
  ),
  tt,
)

pub returns-clause-holds : goal.returns-clause-holds
returns-clause-holds c = (
  _,
  Initial (codes "x") ∷ [],
  Does 0 1,
  (0, omega arith, refl),
  refl,
  (_, refl, (refl, (0, omega arith, refl))),
)
