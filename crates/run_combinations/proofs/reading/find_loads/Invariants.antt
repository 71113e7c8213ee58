use Rattle.run_combinations.specs.Rounds.{AreLoads}
use Rattle.run_combinations.proofs.reading.find_loads.Given as goal

abbrev pub invariant-loop-number : goal.invariant-loop-number
invariant-loop-number l = AreLoads l.events l.number l.loads.items
