use Rattle.cat_machine.proofs.Among.{own_bit}
use Rattle.cat_machine.proofs.rounds.next.Goals as goal

pub returns-clause-exact : goal.returns-clause-exact
returns-clause-exact c =
    λ few k lt.
    own_bit c.args.grew c.next_among.result _ few (rw c.bodies_at.ensures at c.next_among.ensures) k lt

pub returns-clause-shared : goal.returns-clause-shared
returns-clause-shared c = rw c.bodies_at.ensures at c.next_among.ensures
