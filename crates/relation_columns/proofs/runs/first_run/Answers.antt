use Rattle.std.proofs.Common.{◌-◌, arith}
use Rattle.relation_columns.specs.Storage.{run_ends}
use Rattle.relation_columns.proofs.Expanding.{start_at, as_many_ends}
use Rattle.relation_columns.proofs.runs.first_run.Goals as goal

pub returns-then-end_at-at-clause-from_start : goal.returns-then-end_at-at-clause-from_start
returns-then-end_at-at-clause-from_start g c =
    rw
    (start_at 0 (run_ends c.args.runs.now) c.args.first (c.args.first - 1) (omega arith)
    (omega (arith, as_many_ends c.args.runs.now)))
    (omega arith)

pub returns-else-first-gt0-clause-from_start : goal.returns-else-first-gt0-clause-from_start
returns-else-first-gt0-clause-from_start g c = omega arith
