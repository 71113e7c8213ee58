use Rattle.std.proofs.Common.{◌≡◌, ◌++◌, take, map}
use Rattle.thread_runs.specs.AllRuns.{with_load}
use Rattle.thread_runs.proofs.enumerate.add_loads.Given as goal

abbrev pub invariant-loop-value : goal.invariant-loop-value
invariant-loop-value l =
    l.next.items
    ≡ l.initial.next.items
    ++ map (with_load l.instruction l.beginning) (take l.value-index l.values)
