use Rattle.std.proofs.Common.{◌≡◌, length}
use Rattle.cat_machine.proofs.solver.values_of.Given as goal

abbrev pub invariant-loop : goal.invariant-loop
invariant-loop l = length l.values.items ≡ l.index
