use Rattle.std.proofs.Common.{map, take}
use Rattle.meaning.specs.Sets.{IsListOf}
use Rattle.plain_runs.specs.Runs.{run_as}
use Rattle.plain_runs.proofs.Listing.{Over}
use Rattle.plain_executions.specs.Executions.{event_lists_as, order_lists_as, execution_as, IsExecutionWith}
use Rattle.plain_executions.proofs.execution.executions_from.Given as goal

abbrev pub invariant-loop-reads_from : goal.invariant-loop-reads_from
invariant-loop-reads_from l =
    IsListOf (Over (IsExecutionWith (map run_as l.runs) (order_lists_as l.orders)) (take l.reads_from-index (event_lists_as l.all)))
    (map execution_as l.executions.items)
