use Rattle.run_combinations.proofs.Gathering.{Needed}
use Rattle.run_combinations.proofs.reading.needs_of.Given as goal

abbrev pub invariant-loop-number : goal.invariant-loop-number
invariant-loop-number l = Needed l.events l.need_pairs l.store l.number l.found
