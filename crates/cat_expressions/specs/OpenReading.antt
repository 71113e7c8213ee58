-- An expression that is read in part, as the machine sees it.
use Rattle.std.specs.Prelude.{◌≡◌, [], Result, Ok, Err}
use Rattle.cat_expressions.specs.declared.frames.StepError.{StepError}
use Rattle.cat_expressions.specs.declared.frames.StepError.TheVariants as errors
use Rattle.cat_expressions.specs.declared.frames.Expectation as code_expectation
use Rattle.cat_expressions.specs.declared.frames.Expectation.TheVariants as expectations
use Rattle.cat_expressions.specs.declared.frames.ExpressionStep as code_step
use Rattle.cat_expressions.specs.declared.frames.ExpressionStep.TheVariants as code_steps
use Rattle.cat_expressions.specs.declared.terms.OpenExpression.{OpenExpression}
use Rattle.cat_tokens.specs.declared.token.Token.{Token}
use Rattle.cat_tokens.specs.declared.token.Token.TheVariants as tokens
use Rattle.text_values.specs.ModelValue.{Term, AllEvents}
use Rattle.text_values.specs.ModelValues.{term_of}
use Rattle.cat_grammar.specs.Machine as machine
use Rattle.cat_expressions.specs.Reading.{term_stack_of, term_expectation_of}

-- nothing is read
pub record IsOpenStart (o : OpenExpression) : Type 0 where
  pub nothing_open : term_stack_of o.frames.items ≡ []
  pub no_operator : o.operators ≡ 0
  pub wants_operand : term_expectation_of o.expected ≡ machine.Wants

-- the expression that has ended, where one has
abbrev pub whole_of : code_expectation.Expectation → Term
whole_of (expectations.Has v) = term_of v
whole_of expectations.Wants = AllEvents
whole_of expectations.Brace = AllEvents
whole_of (expectations.Named n) = AllEvents
whole_of (expectations.HasStar v) = AllEvents
whole_of (expectations.HasStarTilde v) = AllEvents

-- what a token did to an expression, read before this token, is what the machine does, unless
-- memory ran out
abbrev pub StepsExpression : Token → Result code_step.ExpressionStep StepError → OpenExpression
    → machine.TermStep → Type 0
StepsExpression t (Ok code_steps.Goes) o made =
    made ≡ machine.Goes (term_stack_of o.frames.items) o.operators (term_expectation_of o.expected)
StepsExpression t (Ok code_steps.Ends) o made = made ≡ machine.Ends (whole_of o.expected)
StepsExpression t (Ok (code_steps.EndsTilde w)) o made =
    (made ≡ machine.EndsTilde (whole_of o.expected)) × (t ≡ tokens.Check w)
StepsExpression t (Err errors.OutOfMemory) o made = Unit {0}
StepsExpression t (Err (errors.Refused k)) o made = made ≡ machine.Refuses k
StepsExpression t (Err (errors.RefusedBefore k)) o made = ⊥
