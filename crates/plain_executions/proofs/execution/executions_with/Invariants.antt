use Rattle.std.proofs.Common.{◌≡◌, map, take}
use Rattle.plain_runs.specs.Runs.{run_as}
use Rattle.plain_events.specs.Events.{event_as}
use Rattle.plain_executions.specs.Executions.{order_lists_as, execution_as, execution_of}
use Rattle.plain_executions.proofs.execution.executions_with.Given as goal

abbrev pub invariant-loop-coherence : goal.invariant-loop-coherence
invariant-loop-coherence l =
    map execution_as l.executions.items
    ≡ map (execution_of (map run_as l.runs) (map event_as l.reads_from))
    (order_lists_as (take l.coherence-index l.coherences))
