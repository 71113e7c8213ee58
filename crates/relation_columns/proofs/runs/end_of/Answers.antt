use Rattle.std.proofs.Common.{◌∙◌, arith}
use Rattle.relation_columns.specs.Storage.{run_ends}
use Rattle.relation_columns.proofs.Expanding.{last_is, as_many_ends}
use Rattle.relation_columns.proofs.runs.end_of.Goals as goal

pub returns-else-count-eq0 : goal.returns-else-count-eq0
returns-else-count-eq0 g c =
    c.end_at.ensures
    ∙ last_is 0 (run_ends c.args.runs.now) _ (omega (arith, as_many_ends c.args.runs.now))
