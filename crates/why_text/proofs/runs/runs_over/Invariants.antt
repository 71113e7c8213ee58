use Rattle.why_text.specs.Origins.{AreRunsOver}
use Rattle.why_text.proofs.runs.runs_over.Given as goal

abbrev pub invariant-loop-thread : goal.invariant-loop-thread
invariant-loop-thread l = AreRunsOver l.test l.domain.values.items l.thread l.threads.items
