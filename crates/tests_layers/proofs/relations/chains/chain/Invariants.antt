use Rattle.std.proofs.Common.{◌≡◌}
use Rattle.tests_layers.proofs.relations.chains.chain.Given as goal

abbrev pub invariant-loop-i : goal.invariant-loop-i
invariant-loop-i l = l.made.count ≡ l.count
