use Rattle.std.proofs.Common.{take}
use Rattle.run_combinations.specs.Keys.{AreKeysIn}
use Rattle.run_combinations.specs.Parts.{HasStoresOf}
use Rattle.run_combinations.proofs.part.join_stores.Given as goal

abbrev pub invariant-loop-run : goal.invariant-loop-run
invariant-loop-run l = AreKeysIn l.initial.set l.set × HasStoresOf l.set (take l.run-index l.runs)
