use Rattle.draw_graph.proofs.Pairs.{transitive_is}
use Rattle.draw_graph.proofs.relation.is_transitive.Goals as goal

pub returns : goal.returns
returns c =
    transitive_is c.args.relation.now c.compose-composed.result c.minus-outside.result _ _
    c.is_empty.result c.compose-composed.ensures c.minus-outside.ensures c.is_empty.ensures
