use Rattle.std.proofs.Common.{take}
use Rattle.run_combinations.specs.Keys.{AreKeysIn}
use Rattle.run_combinations.specs.Parts.{HasStoresOfAll}
use Rattle.run_combinations.proofs.part.stored_by.Given as goal

abbrev pub invariant-loop-runs : goal.invariant-loop-runs
invariant-loop-runs l =
    AreKeysIn l.initial' l.stored × HasStoresOfAll l.stored (take l.runs-index l.threads)
