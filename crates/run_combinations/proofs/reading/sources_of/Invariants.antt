use Rattle.run_combinations.proofs.Gathering.{Sourced}
use Rattle.run_combinations.proofs.reading.sources_of.Given as goal

abbrev pub invariant-loop-number : goal.invariant-loop-number
invariant-loop-number l = Sourced l.events l.load l.number l.found
