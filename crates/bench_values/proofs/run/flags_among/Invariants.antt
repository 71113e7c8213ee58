use Rattle.bench_values.proofs.Making.{AreFlagsTo}
use Rattle.bench_values.proofs.run.flags_among.Given as goal

abbrev pub invariant-loop-at : goal.invariant-loop-at
invariant-loop-at l = AreFlagsTo l.flags l.answers l.at l.raised.items
