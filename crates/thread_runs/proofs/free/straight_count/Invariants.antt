use Rattle.std.proofs.Common.{◌≡◌, ◌≤◌, None, drop, length}
use Rattle.thread_runs.specs.FreeRuns.{capped, count_free}
use Rattle.thread_runs.proofs.free.straight_count.Given as goal

abbrev pub invariant-loop-index : goal.invariant-loop-index
invariant-loop-index l = record {
  within : l.index ≤ length l.lines;
  counted : l.count ≡ capped (count_free l.size (drop l.index l.lines) None);
}

abbrev pub decreases-loop-index : goal.decreases-loop-index
decreases-loop-index l = l.index
