use Rattle.std.proofs.Common.{◌≡◌, map}
use Rattle.thread_runs.specs.AllRuns.{run_shown, shown_whole}
use Rattle.thread_runs.proofs.enumerate.shown_runs.Given as goal

abbrev pub invariant-loop-beginning : goal.invariant-loop-beginning
invariant-loop-beginning l = map run_shown l.runs.items ≡ map shown_whole l.yielded
