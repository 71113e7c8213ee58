use Rattle.std.proofs.Common.{◌≡◌, false, take}
use Rattle.std.specs.List.{list_any}
use Rattle.thread_runs.specs.AllRuns.{thread_of, first_of}
use Rattle.thread_runs.specs.LocationValues.{line_may_store}
use Rattle.thread_runs.proofs.location_values.thread_may_store.Given as goal

abbrev pub invariant-loop-line : goal.invariant-loop-line
invariant-loop-line l =
    list_any
    (line_may_store (thread_of l.program l.thread).lines (first_of l.program l.thread)
    l.location l.value)
    (take l.line-index l.line-items) ≡ false
