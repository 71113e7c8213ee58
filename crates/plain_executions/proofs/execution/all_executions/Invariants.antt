use Rattle.std.proofs.Common.{map, take}
use Rattle.text_values.specs.TestValue.{content_of}
use Rattle.meaning.specs.Sets.{IsListOf}
use Rattle.plain_runs.proofs.Listing.{Over}
use Rattle.plain_events.specs.Combinations.{run_lists_as}
use Rattle.plain_executions.specs.Executions.{execution_as, IsExecutionOf}
use Rattle.plain_executions.proofs.execution.all_executions.Given as goal

abbrev pub invariant-loop-runs : goal.invariant-loop-runs
invariant-loop-runs l =
    IsListOf (Over (IsExecutionOf (content_of l.test)) (take l.runs-index (run_lists_as l.combinations)))
    (map execution_as l.executions.items)
