use Rattle.std.proofs.Common.{take}
use Rattle.run_combinations.specs.Keys.{HasStores}
use Rattle.run_combinations.proofs.search.stores_of.Given as goal

abbrev pub invariant-loop-thread : goal.invariant-loop-thread
invariant-loop-thread l = HasStores l.stores (take l.thread-index l.threads)
