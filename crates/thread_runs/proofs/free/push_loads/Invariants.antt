use Rattle.std.proofs.Common.{◌≡◌, ◌++◌, take}
use Rattle.thread_runs.specs.FreeWalks.{loaded}
use Rattle.thread_runs.proofs.free.push_loads.Given as goal

abbrev pub invariant-loop-value : goal.invariant-loop-value
invariant-loop-value l =
    l.next.items ≡ l.initial.next.items ++ loaded (take l.value-index l.values) l.instruction l.walk
