use Rattle.ppc_semantics.proofs.Bounds.{IsGoing}
use Rattle.ppc_semantics.proofs.rounds.last_round.Given as goal

abbrev pub invariant-loop-round : goal.invariant-loop-round
invariant-loop-round l = IsGoing l.program l.round l.values.items
