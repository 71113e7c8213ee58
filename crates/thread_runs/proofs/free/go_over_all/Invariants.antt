use Rattle.std.proofs.Common.{◌≡◌, ◌++◌, take, drop, map}
use Rattle.thread_runs.specs.FreeWalks.{over}
use Rattle.thread_runs.proofs.free.go_over_all.Given as goal

abbrev pub invariant-loop-walk : goal.invariant-loop-walk
invariant-loop-walk l =
    l.walk-items
    ≡ map (over l.line) (take l.walk-index l.initial.walk-items)
    ++ drop l.walk-index l.initial.walk-items
