use Rattle.std.proofs.lemmas.Result.{IfOk-weaker}
use Rattle.bit_rows.specs.Relation.{IsMember}
use Rattle.draw_graph.proofs.Pairs.{among_edges}
use Rattle.draw_graph.proofs.relation.edges.Goals as goal

pub returns : goal.returns
returns c =
    IfOk-weaker c.pairs.result _ _
    (λ v h. among_edges c.args.relation.now c.drawn-drawn.result c.restrict-among.result
    (IsMember c.args.events.now) _ _ v.items c.restrict-among.ensures c.drawn-drawn.ensures
    h) c.pairs.ensures
