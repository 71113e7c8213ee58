use Rattle.std.proofs.Common.{◌≡◌, ◌≤◌, ◌+◌, length}
use Rattle.thread_runs.specs.FreeRuns.{AreCounts}
use Rattle.thread_runs.proofs.free.free_counts.Given as goal

abbrev pub invariant-loop-index : goal.invariant-loop-index
invariant-loop-index l = record {
  within : l.index ≤ length l.lines;
  long : length l.counts.items ≡ length l.lines + 1;
  counted : AreCounts l.lines l.size l.counts.items l.index;
}

abbrev pub decreases-loop-index : goal.decreases-loop-index
decreases-loop-index l = l.index
