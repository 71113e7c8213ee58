use Rattle.std.proofs.Common.{◌-◌, ◌<◌, ◌≤◌, length}
use Rattle.relation_columns.specs.Runs.{run_start}
use Rattle.relation_columns.specs.Storage.{run_ends}
use Rattle.relation_columns.proofs.runs.found_run.Given as goal

abbrev pub invariant-halves : goal.invariant-halves
invariant-halves g l =
    (l.low < l.high) × (l.high ≤ length l.runs) × (run_start 0 (run_ends l.runs) l.low ≤ l.at)

abbrev pub decreases-halves : goal.decreases-halves
decreases-halves g l = l.high - l.low
