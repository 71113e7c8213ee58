use Rattle.std.proofs.Common.{ap, ◌∙◌, ◌∷◌, List}
use Rattle.cat_tokens.specs.declared.token.Token.TheVariants.{Comma}
use Rattle.cat_grammar.specs.Machine.{comma_read, Goes, Wants, TermFrame}
use Rattle.cat_expressions.specs.Reading.{frame_of, term_stack_of}
use Rattle.text_values.specs.ModelValues.{term_of}
use Rattle.cat_expressions.specs.declared.frames.Frame as code_frame
use Rattle.cat_expressions.proofs.Stack.{popped_of, steps_same, comma_pushed}
use Rattle.cat_expressions.proofs.terms.OpenExpression.comma_read.Goals as goal

pub returns-in-Some-Group : goal.returns-in-Some-Group
returns-in-Some-Group c =
    ap (comma_read c.args.self.now.operators) (popped_of _ _ _ _ _ c.in_ok-join.ensures
    c.in-Some-Group.ensures.items)
    ∙ ap
    (λ (f : code_frame.Frame). comma_read c.args.self.now.operators
    (frame_of f ∷ term_stack_of c.pop.new.self.items, term_of c.join.new.operand))
    c.in-Some-Group.field-0-is

pub returns-in-Some-Square : goal.returns-in-Some-Square
returns-in-Some-Square c =
    ap (comma_read c.args.self.now.operators) (popped_of _ _ _ _ _ c.in_ok-join.ensures
    c.in-Some-Square.ensures.items)
    ∙ ap
    (λ (f : code_frame.Frame). comma_read c.args.self.now.operators
    (frame_of f ∷ term_stack_of c.pop.new.self.items, term_of c.join.new.operand))
    c.in-Some-Square.field-0-is

pub returns-in-Some-Prefix : goal.returns-in-Some-Prefix
returns-in-Some-Prefix c =
    ap (comma_read c.args.self.now.operators) (popped_of _ _ _ _ _ c.in_ok-join.ensures
    c.in-Some-Prefix.ensures.items)
    ∙ ap
    (λ (f : code_frame.Frame). comma_read c.args.self.now.operators
    (frame_of f ∷ term_stack_of c.pop.new.self.items, term_of c.join.new.operand))
    c.in-Some-Prefix.field-0-is

pub returns-in-Some-Left : goal.returns-in-Some-Left
returns-in-Some-Left c =
    ap (comma_read c.args.self.now.operators) (popped_of _ _ _ _ _ c.in_ok-join.ensures
    c.in-Some-Left.ensures.items)
    ∙ ap
    (λ (f : code_frame.Frame). comma_read c.args.self.now.operators
    (frame_of f ∷ term_stack_of c.pop.new.self.items, term_of c.join.new.operand))
    c.in-Some-Left.field-0-is

pub returns-in_ok-push-in-Some-Applied-2 : goal.returns-in_ok-push-in-Some-Applied-2
returns-in_ok-push-in-Some-Applied-2 c =
    steps_same Comma _ _ _ _
    (ap (comma_read c.args.self.now.operators) (popped_of _ _ _ _ _ c.in_ok-join.ensures
    c.in-Some-Applied.ensures.items)
    ∙ ap
    (λ (f : code_frame.Frame). comma_read c.args.self.now.operators
    (frame_of f ∷ term_stack_of c.pop.new.self.items, term_of c.join.new.operand))
    c.in-Some-Applied.field-0-is
    ∙ ap (λ (fs : List TermFrame). Goes fs c.args.self.now.operators Wants) (comma_pushed
    c.pop.new.self.items c.push-in-Some-Applied.new.self.items c.in-Some-Applied.name
    c.in-Some-Applied.arguments c.push.new.self c.join.new.operand
    c.in_ok-push-in-Some-Applied.ensures.items
    c.in_ok-push-in-Some-Applied-2.ensures.items))
    (c.goes.ensures Comma)
