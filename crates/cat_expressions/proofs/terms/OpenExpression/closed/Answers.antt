use Rattle.std.proofs.Common.{ap, ◌∙◌, ◌∷◌}
use Rattle.cat_tokens.specs.declared.token.Token.TheVariants.{Close}
use Rattle.cat_grammar.specs.Machine.{term_closed, Goes, Has}
use Rattle.text_values.specs.ModelValue.{Term}
use Rattle.cat_expressions.specs.Reading.{frame_of, term_stack_of}
use Rattle.text_values.specs.ModelValues.{term_of}
use Rattle.cat_expressions.specs.declared.frames.Frame as code_frame
use Rattle.cat_expressions.proofs.Stack.{popped_of, steps_same, applied_pushed}
use Rattle.cat_expressions.proofs.terms.OpenExpression.closed.Goals as goal

pub returns-in-Some-Group : goal.returns-in-Some-Group
returns-in-Some-Group c =
    steps_same Close _ _ _ _
    (ap (term_closed c.args.self.now.operators) (popped_of _ _ _ _ _ c.in_ok-join.ensures
    c.in-Some-Group.ensures.items)
    ∙ ap
    (λ (f : code_frame.Frame). term_closed c.args.self.now.operators (
      frame_of f
          ∷ term_stack_of c.pop.new.self.items,
      term_of c.join.new.operand,
    ))
    c.in-Some-Group.field-0-is)
    (c.goes.ensures Close)

pub returns-in-Some-Square : goal.returns-in-Some-Square
returns-in-Some-Square c =
    ap (term_closed c.args.self.now.operators) (popped_of _ _ _ _ _ c.in_ok-join.ensures
    c.in-Some-Square.ensures.items)
    ∙ ap
    (λ (f : code_frame.Frame). term_closed c.args.self.now.operators (
      frame_of f
          ∷ term_stack_of c.pop.new.self.items,
      term_of c.join.new.operand,
    ))
    c.in-Some-Square.field-0-is

pub returns-in-Some-Prefix : goal.returns-in-Some-Prefix
returns-in-Some-Prefix c =
    ap (term_closed c.args.self.now.operators) (popped_of _ _ _ _ _ c.in_ok-join.ensures
    c.in-Some-Prefix.ensures.items)
    ∙ ap
    (λ (f : code_frame.Frame). term_closed c.args.self.now.operators (
      frame_of f
          ∷ term_stack_of c.pop.new.self.items,
      term_of c.join.new.operand,
    ))
    c.in-Some-Prefix.field-0-is

pub returns-in-Some-Left : goal.returns-in-Some-Left
returns-in-Some-Left c =
    ap (term_closed c.args.self.now.operators) (popped_of _ _ _ _ _ c.in_ok-join.ensures
    c.in-Some-Left.ensures.items)
    ∙ ap
    (λ (f : code_frame.Frame). term_closed c.args.self.now.operators (
      frame_of f
          ∷ term_stack_of c.pop.new.self.items,
      term_of c.join.new.operand,
    ))
    c.in-Some-Left.field-0-is

pub returns-in_ok-push-in-Some-Applied : goal.returns-in_ok-push-in-Some-Applied
returns-in_ok-push-in-Some-Applied c =
    steps_same Close _ _ _ _
    (ap (term_closed c.args.self.now.operators) (popped_of _ _ _ _ _ c.in_ok-join.ensures
    c.in-Some-Applied.ensures.items)
    ∙ ap
    (λ (f : code_frame.Frame). term_closed c.args.self.now.operators (
      frame_of f
          ∷ term_stack_of c.pop.new.self.items,
      term_of c.join.new.operand,
    ))
    c.in-Some-Applied.field-0-is
    ∙ ap (λ (t : Term). Goes (term_stack_of c.pop.new.self.items) c.args.self.now.operators (Has t))
    (applied_pushed c.in-Some-Applied.name c.in-Some-Applied.arguments c.push.new.self
    c.join.new.operand c.in_ok-push-in-Some-Applied.ensures.items))
    (c.goes-in-Some-Applied.ensures Close)
