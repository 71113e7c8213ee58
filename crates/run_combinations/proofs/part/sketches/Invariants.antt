use Rattle.run_combinations.proofs.Parting.{AreFirst}
use Rattle.run_combinations.proofs.part.sketches.Given as goal

abbrev pub invariant-loop-index : goal.invariant-loop-index
invariant-loop-index l = AreFirst l.values l.runs l.index l.made.items
