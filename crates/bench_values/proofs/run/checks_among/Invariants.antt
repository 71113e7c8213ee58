use Rattle.bench_values.proofs.Making.{AreChecksTo}
use Rattle.bench_values.proofs.run.checks_among.Given as goal

abbrev pub invariant-loop-at : goal.invariant-loop-at
invariant-loop-at l = AreChecksTo l.flags l.answers l.at l.checks.items
