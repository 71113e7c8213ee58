use Rattle.std.proofs.Common.{ap, sym, ◌∙◌}
use Rattle.cat_grammar.specs.Machine.{term_ended, Refuses}
use Rattle.cat_expressions.proofs.Stack.{popped_of}
use Rattle.cat_expressions.proofs.terms.OpenExpression.ended.Goals as goal

pub returns-in-Some : goal.returns-in-Some
returns-in-Some c =
    ap (term_ended c.args.token.now) (popped_of _ _ _ _ _ c.in_ok-join.ensures c.in-Some.ensures.items)
    ∙ ap Refuses (sym c.rule.ensures)
