use Rattle.relation_columns.specs.Runs.{no_set}
use Rattle.relation_columns.proofs.Expanding.{value_there}
use Rattle.relation_columns.proofs.sets.value_of.Goals as goal

pub returns : goal.returns
returns c = value_there c.args.runs.now c.args.run c.index-runs-run.result no_set c.requires
