use Rattle.relation_cycles.proofs.Steps.{next_is}
use Rattle.relation_cycles.proofs.next_level.Goals as goal

pub returns : goal.returns
returns c =
    next_is c.args.relation.now c.args.level.now c.compose-next.result c.union_with.new.self
    c.compose-next.ensures c.union_with.ensures
