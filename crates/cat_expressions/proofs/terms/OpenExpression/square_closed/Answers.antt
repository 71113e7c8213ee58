use Rattle.std.proofs.Common.{ap, sym, ◌∙◌}
use Rattle.cat_tokens.specs.declared.token.Token.TheVariants.{CloseSquare}
use Rattle.cat_grammar.specs.Machine.{square_closed, Goes, Has}
use Rattle.text_values.specs.ModelValue.{Term, On}
use Rattle.cat_expressions.specs.Reading.{term_stack_of}
use Rattle.text_values.specs.ModelValues.{term_of}
use Rattle.cat_expressions.proofs.Stack.{popped_of, square_refused, square_matched, steps_same}
use Rattle.cat_expressions.proofs.terms.OpenExpression.square_closed.Goals as goal

pub returns-then-not-is_square : goal.returns-then-not-is_square
returns-then-not-is_square c =
    ap (square_closed c.args.self.now.operators) (popped_of _ _ _ _ _ c.in_ok-join.ensures
    c.in-Some.ensures.items)
    ∙ square_refused c.args.self.now.operators c.in-Some.frame _ _
    (sym c.is_square.ensures ∙ c.if-not-is_square.true)

pub returns : goal.returns
returns c =
    steps_same CloseSquare _ _ _ _
    (ap (square_closed c.args.self.now.operators) (popped_of _ _ _ _ _ c.in_ok-join.ensures
    c.in-Some.ensures.items)
    ∙ square_matched c.args.self.now.operators c.in-Some.frame _ _
    (sym c.is_square.ensures ∙ c.if-not-is_square.false)
    ∙ ap (λ (t : Term). Goes (term_stack_of c.pop.new.self.items) c.args.self.now.operators (Has (On t)))
    (sym (ap term_of c.in_ok-new.ensures.ok)))
    (c.goes.ensures CloseSquare)
