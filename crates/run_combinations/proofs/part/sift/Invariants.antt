use Rattle.run_combinations.specs.Parts.{IsSifted}
use Rattle.run_combinations.proofs.part.sift.Given as goal

abbrev pub invariant-loop : goal.invariant-loop
invariant-loop l = IsSifted l.initial' l.initial.threads l.threads
