use Rattle.std.proofs.Common.{◌≡◌, ◌++◌, map, drop}
use Rattle.meaning.specs.Executions.{loads_in}
use Rattle.plain_runs.specs.Runs.{run_as}
use Rattle.plain_events.specs.Events.{event_as}
use Rattle.plain_events.proofs.node.loads.Given as goal

abbrev pub invariant-loop-thread : goal.invariant-loop-thread
invariant-loop-thread l =
    map event_as l.loads.items ++ loads_in l.thread (drop l.thread (map run_as l.runs))
    ≡ loads_in 0 (map run_as l.runs)
