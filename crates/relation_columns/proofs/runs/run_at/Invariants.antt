use Rattle.std.proofs.Common.{◌-◌, ◌<◌, ◌≤◌, length}
use Rattle.relation_columns.specs.Runs.{run_start}
use Rattle.relation_columns.specs.Storage.{run_ends}
use Rattle.relation_columns.proofs.runs.run_at.Given as goal

abbrev pub invariant-loop-run : goal.invariant-loop-run
invariant-loop-run g l = (l.run < length l.runs) × (run_start 0 (run_ends l.runs) l.run ≤ l.at)

abbrev pub decreases-loop-run : goal.decreases-loop-run
decreases-loop-run g l = length l.runs - l.run
