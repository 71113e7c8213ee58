use Rattle.std.proofs.Common.{List, subst}
use Rattle.binding_graph.specs.declared.resolved.ResolvedItem.{ResolvedItem}
use Rattle.cut_spaces.specs.Spaces.{IsEvaluable}
use Rattle.cut_spaces.proofs.Evaluating.{outcome_of}
use Rattle.cut_spaces.proofs.cell.over_parts.Goals as goal

pub returns : goal.returns
returns c = λ text none are.
    outcome_of text c.args.resolved.now.items.items c.args.parts c.in_ok-space.space
    c.args.test.now c.over_space.result none are c.requires
    (subst (λ (items : List ResolvedItem). IsEvaluable items c.args.parts c.in_ok-space.space)
    c.deref.ensures.value c.in_ok-space.ensures)
    c.over_space.ensures.said c.over_space.ensures.answers
