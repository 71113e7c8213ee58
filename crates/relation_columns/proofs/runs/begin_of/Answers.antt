use Rattle.std.proofs.Common.{◌-◌, ◌∙◌, sym, arith}
use Rattle.relation_columns.specs.Storage.{run_ends}
use Rattle.relation_columns.proofs.Expanding.{start_at, as_many_ends}
use Rattle.relation_columns.proofs.runs.begin_of.Goals as goal

pub returns-else-run-eq0 : goal.returns-else-run-eq0
returns-else-run-eq0 g c =
    c.end_at.ensures
    ∙ sym (start_at 0 (run_ends c.args.runs.now) c.args.run (c.args.run - 1) (omega arith)
    (omega (arith, as_many_ends c.args.runs.now)))
