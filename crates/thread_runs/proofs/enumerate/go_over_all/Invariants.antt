use Rattle.std.proofs.Common.{◌≡◌, ◌++◌, take, drop, map}
use Rattle.thread_runs.specs.AllRuns.{gone_over}
use Rattle.thread_runs.proofs.enumerate.go_over_all.Given as goal

abbrev pub invariant-loop-beginning : goal.invariant-loop-beginning
invariant-loop-beginning l =
    l.beginning-items
    ≡ map (gone_over l.line) (take l.beginning-index l.initial.beginning-items)
    ++ drop l.beginning-index l.initial.beginning-items
