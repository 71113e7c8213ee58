use Rattle.run_combinations.proofs.Parting.{KeptUpTo}
use Rattle.run_combinations.proofs.part.keep_readable.Given as goal

abbrev pub invariant-loop-runs : goal.invariant-loop-runs
invariant-loop-runs l = KeptUpTo l.stored l.runs-index l.initial.threads l.threads
