use Rattle.std.proofs.Common.{ℕ, ◌≡◌, List, []}
use Rattle.text_values.specs.declared.test.Test.{Test}
use Rattle.thread_runs.specs.declared.value.Value.{Value}
use Rattle.why_text.specs.Origins.{AreMadeBelow, AreRunsOver}
use Rattle.why_text.proofs.events.all_made.Given as goal

abbrev pub invariant-loop-thread : goal.invariant-loop-thread
invariant-loop-thread l = record {
  made : (test : Test) (domain : List Value) (count : ℕ) → AreRunsOver test domain count l.threads
      → AreMadeBelow test domain l.events l.thread l.found.items;
  none : l.thread ≡ 0 → l.found.items ≡ [];
}
