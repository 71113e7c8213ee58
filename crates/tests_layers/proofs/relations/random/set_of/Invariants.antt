use Rattle.std.proofs.Common.{◌≡◌}
use Rattle.tests_layers.proofs.relations.random.set_of.Given as goal

abbrev pub invariant-loop-pair : goal.invariant-loop-pair
invariant-loop-pair l = l.made.count ≡ l.count
