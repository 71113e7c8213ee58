use Rattle.std.proofs.Common.{◌≡◌, map, take}
use Rattle.plain_runs.specs.Runs.{run_as}
use Rattle.plain_executions.proofs.execution.copied_runs.Given as goal

abbrev pub invariant-loop-run : goal.invariant-loop-run
invariant-loop-run l = map run_as l.copies.items ≡ map run_as (take l.run-index l.runs)
