use Rattle.std.proofs.Common.{◌≤◌, length}
use Rattle.thread_runs.specs.FreeWalks.{HasNoStore}
use Rattle.thread_runs.proofs.free.stores_end.Given as goal

abbrev pub invariant-loop-end : goal.invariant-loop-end
invariant-loop-end l = record {
  within : l.end ≤ length l.lines;
  none : HasNoStore l.lines l.end (length l.lines);
}

abbrev pub decreases-loop-end : goal.decreases-loop-end
decreases-loop-end l = l.end
