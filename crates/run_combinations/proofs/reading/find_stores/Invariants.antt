use Rattle.run_combinations.specs.Rounds.{AreStores}
use Rattle.run_combinations.proofs.reading.find_stores.Given as goal

abbrev pub invariant-loop-number : goal.invariant-loop-number
invariant-loop-number l = AreStores l.events l.need_pairs l.number l.stores.items
