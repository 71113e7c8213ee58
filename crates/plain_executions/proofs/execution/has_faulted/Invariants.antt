use Rattle.std.proofs.Common.{map, take}
use Rattle.plain_runs.specs.Runs.{run_as}
use Rattle.plain_executions.specs.Executions.{HasFaultedRun}
use Rattle.plain_executions.proofs.execution.has_faulted.Given as goal

abbrev pub invariant-loop-run : goal.invariant-loop-run
invariant-loop-run l = HasFaultedRun (take l.run-index (map run_as l.runs)) → ⊥
