use Rattle.std.proofs.Common.{ℕ, ◌↔◌}
use Rattle.cat_machine.specs.Uses.{IsAmong}
use Rattle.cat_machine.proofs.Among.{UsesBefore}
use Rattle.cat_machine.proofs.rounds.next_among.Given as goal

abbrev pub invariant-loop-position : goal.invariant-loop-position
invariant-loop-position l = (k : ℕ) → IsAmong l.names k ↔ UsesBefore l.grew l.bodies l.position k
