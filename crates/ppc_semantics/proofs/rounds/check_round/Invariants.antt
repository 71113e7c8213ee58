use Rattle.ppc_lowering.specs.Domain.{HasFewRuns}
use Rattle.ppc_semantics.proofs.rounds.check_round.Given as goal

abbrev pub invariant-loop-thread : goal.invariant-loop-thread
invariant-loop-thread l = HasFewRuns l.program l.values l.thread
