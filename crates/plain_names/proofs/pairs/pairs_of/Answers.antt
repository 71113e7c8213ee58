use Rattle.plain_executions.specs.Executions.{execution_as}
use Rattle.plain_names.proofs.Meant.{pairs_meant}
use Rattle.plain_names.proofs.pairs.pairs_of.Goals as goal

pub returns : goal.returns
returns c t are =
    pairs_meant t (execution_as c.args.execution.now) c.args.name c.args.shown.now.seen.items
    c.in_ok-pairs.pairs.items c.in_ok-pairs.ensures are
