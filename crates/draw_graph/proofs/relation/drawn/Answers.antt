use Rattle.std.proofs.Common.{rules, sym, ◌∙◌}
use Rattle.std.proofs.lemmas.Bool.{false≢true}
use Rattle.draw_graph.proofs.Pairs.{drawn_of_order, drawn_of_other}
use Rattle.draw_graph.proofs.relation.drawn.Goals as goal

pub returns-then-ordered : goal.returns-then-ordered
returns-then-ordered c =
    drawn_of_order c.args.relation.now c.compose-composed.result c.minus-between.result _
    (c.is_order-ordered.ensures.0 c.if-ordered.true) c.compose-composed.ensures
    c.minus-between.ensures

pub returns-else-ordered : goal.returns-else-ordered
returns-else-ordered c =
    drawn_of_other c.args.relation.now (search rules) (λ o.
    false≢true (sym c.if-ordered.false ∙ c.is_order-ordered.ensures.1 o))
