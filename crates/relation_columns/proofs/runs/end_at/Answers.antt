use Rattle.relation_columns.proofs.Expanding.{end_there}
use Rattle.relation_columns.proofs.runs.end_at.Goals as goal

pub returns : goal.returns
returns g c = end_there c.args.runs.now c.args.run c.index-runs-run.result c.requires
