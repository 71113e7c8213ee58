use Rattle.std.proofs.Common.{◌≡◌}
use Rattle.std.specs.List.{flat_map}
use Rattle.thread_runs.specs.AllRuns.{spread_over}
use Rattle.thread_runs.proofs.enumerate.spread_all.Given as goal

abbrev pub invariant-loop-beginning : goal.invariant-loop-beginning
invariant-loop-beginning l =
    l.next.items ≡ flat_map (spread_over l.values l.held l.instruction) l.yielded
