-- How the reader goes from token to token within an expression.
use Rattle.std.specs.Prelude.{ℕ, ◌+◌, List, [], ◌∷◌, ◌++◌, Bool, true, false, nat_lt, nat_le, if◌then◌else◌}
use Rattle.cat_tokens.specs.declared.rule.CatRule.{CatRule}
use Rattle.cat_tokens.specs.declared.rule.CatRule.TheVariants.{Syntax, TooDeep}
use Rattle.cat_tokens.specs.declared.token.Token.{Token}
use Rattle.cat_tokens.specs.declared.token.Token.TheVariants as tokens
use Rattle.text_values.specs.declared.model.Infix.{Infix}
use Rattle.text_values.specs.declared.model.Infix.TheVariants.{Product}
use Rattle.text_values.specs.declared.model.Postfix.TheVariants as postfix
use Rattle.cat_tokens.specs.Tokens.{rule_of, begins_operand, infix_of, postfix_of}
use Rattle.cat_grammar.specs.Grammar.{Limits, infix_level, left_level}
use Rattle.text_values.specs.ModelValue.{Term, Atom, AllEvents, EmptyRelation, EmptySet, Join, Mark, Not, On, Apply, gathered}

-- what stands open to the left, the innermost first
pub data TermFrame : Type 0 where
  InGroup : TermFrame
  InSquare : TermFrame
  InPrefix : TermFrame
  LeftOf : (op : Infix) (a : Term) → TermFrame
  InArguments : (name : List ℕ) (arguments : List Term) → TermFrame

-- what was read last: nothing, a brace, a name, an operand, an operand and a star, or that and a
-- tilde
pub data TermExpectation : Type 0 where
  Wants : TermExpectation
  HasBrace : TermExpectation
  HasName : (name : List ℕ) → TermExpectation
  Has : (a : Term) → TermExpectation
  HasStar : (a : Term) → TermExpectation
  HasStarTilde : (a : Term) → TermExpectation

-- what a token does to an expression
pub data TermStep : Type 0 where
  Goes : (frames : List TermFrame) (used : ℕ) (expected : TermExpectation) → TermStep
  Ends : (a : Term) → TermStep
  EndsTilde : (a : Term) → TermStep
  Refuses : (kind : CatRule) → TermStep

abbrev pub open_count : List TermFrame → ℕ
open_count [] = 0
open_count (InGroup ∷ fs) = open_count fs + 1
open_count (InSquare ∷ fs) = open_count fs + 1
open_count (InPrefix ∷ fs) = open_count fs + 1
open_count (LeftOf op a ∷ fs) = open_count fs
open_count (InArguments n args ∷ fs) = open_count fs + 1

-- joins what binds at least this tightly
abbrev pub fold_to : ℕ → List TermFrame → Term → List TermFrame × Term
fold_to l [] v = ([], v)
fold_to l (InGroup ∷ fs) v = (InGroup ∷ fs, v)
fold_to l (InSquare ∷ fs) v = (InSquare ∷ fs, v)
fold_to l (InPrefix ∷ fs) v = fold_to l fs (Not v)
fold_to l (LeftOf op a ∷ fs) v =
    if nat_le l (infix_level op) then fold_to l fs (Join op a v) else (LeftOf op a ∷ fs, v)
fold_to l (InArguments n args ∷ fs) v = (InArguments n args ∷ fs, v)

-- no bracket is open
abbrev pub is_outermost : List TermFrame → Bool
is_outermost [] = true
is_outermost (InGroup ∷ fs) = false
is_outermost (InSquare ∷ fs) = false
is_outermost (InPrefix ∷ fs) = is_outermost fs
is_outermost (LeftOf op a ∷ fs) = is_outermost fs
is_outermost (InArguments n args ∷ fs) = false

abbrev pub term_opened : Limits → List TermFrame → ℕ → TermFrame → TermStep
term_opened most fs used f =
    if nat_lt (open_count fs) most.nesting then Goes (f ∷ fs) used Wants else Refuses TooDeep

-- a token where an operand is wanted
abbrev pub operand : Limits → List TermFrame → ℕ → Token → TermStep
operand most fs used (tokens.Name n) = Goes fs used (HasName n)
operand most fs used tokens.Underscore = Goes fs used (Has AllEvents)
operand most fs used tokens.Zero = Goes fs used (Has EmptyRelation)
operand most fs used tokens.OpenBrace = Goes fs used HasBrace
operand most fs used tokens.Tilde = term_opened most fs used InPrefix
operand most fs used tokens.Open = term_opened most fs used InGroup
operand most fs used tokens.OpenSquare = term_opened most fs used InSquare
operand most fs used t = Refuses (rule_of t)

-- a token after an opening brace
abbrev pub after_brace : List TermFrame → ℕ → Token → TermStep
after_brace fs used tokens.CloseBrace = Goes fs used (Has EmptySet)
after_brace fs used t = Refuses (rule_of t)

abbrev pub left_frames : Infix → List TermFrame × Term → List TermFrame
left_frames op p = LeftOf op p.1 ∷ p.0

abbrev pub infix_at : Infix → List TermFrame → Term → List TermFrame
infix_at op fs v = left_frames op (fold_to (left_level op) fs v)

abbrev pub counted : Limits → ℕ → TermStep → TermStep
counted most used next = if nat_lt used most.operators then next else Refuses TooDeep

-- an expression that ends before a token, or the fault that it does not
abbrev pub term_ended : Token → List TermFrame × Term → TermStep
term_ended t ([], v) = Ends v
term_ended t (f ∷ fs, v) = Refuses (rule_of t)

abbrev pub term_closed : ℕ → List TermFrame × Term → TermStep
term_closed used ([], v) = Ends v
term_closed used (InGroup ∷ fs, v) = Goes fs used (Has v)
term_closed used (InArguments n args ∷ fs, v) = Goes fs used (Has (Apply n (gathered (args ++ v ∷ []))))
term_closed used (f ∷ fs, v) = Refuses Syntax

abbrev pub square_closed : ℕ → List TermFrame × Term → TermStep
square_closed used ([], v) = Ends v
square_closed used (InSquare ∷ fs, v) = Goes fs used (Has (On v))
square_closed used (f ∷ fs, v) = Refuses Syntax

abbrev pub comma_read : ℕ → List TermFrame × Term → TermStep
comma_read used ([], v) = Ends v
comma_read used (InArguments n args ∷ fs, v) = Goes (InArguments n (args ++ v ∷ []) ∷ fs) used Wants
comma_read used (f ∷ fs, v) = Refuses Syntax

-- a token after an operand
abbrev pub operand_after : Limits → List TermFrame → ℕ → Term → Token → TermStep
operand_after most fs used v (tokens.Sign s) =
    counted most used (Goes (infix_at (infix_of s) fs v) (used + 1) Wants)
operand_after most fs used v (tokens.Mark m) =
    counted most used (Goes fs (used + 1) (Has (Mark (postfix_of m) v)))
operand_after most fs used v tokens.Star = counted most used (Goes fs (used + 1) (HasStar v))
operand_after most fs used v tokens.Close = term_closed used (fold_to 0 fs v)
operand_after most fs used v tokens.CloseSquare = square_closed used (fold_to 0 fs v)
operand_after most fs used v tokens.Comma = comma_read used (fold_to 0 fs v)
operand_after most fs used v t = term_ended t (fold_to 0 fs v)

-- a token after a name, which is a function where a parenthesis follows
abbrev pub after_name : Limits → List TermFrame → ℕ → List ℕ → Token → TermStep
after_name most fs used n tokens.Open = term_opened most fs used (InArguments n [])
after_name most fs used n t = operand_after most fs used (Atom n) t

-- a tilde after a star: at the outermost level it may begin the next item
abbrev pub star_tilde : Limits → List TermFrame → ℕ → Term → Bool → TermStep
star_tilde most fs used v true = Goes fs used (HasStarTilde v)
star_tilde most fs used v false = operand most (infix_at Product fs v) used tokens.Tilde

-- another token after a star: the star is infix where an operand follows
abbrev pub star_then : Limits → List TermFrame → ℕ → Term → Token → Bool → TermStep
star_then most fs used v t true = operand most (infix_at Product fs v) used t
star_then most fs used v t false = operand_after most fs used (Mark postfix.Closure v) t

-- a token after an operand and a star
abbrev pub after_star : Limits → List TermFrame → ℕ → Term → Token → TermStep
after_star most fs used v tokens.Tilde = star_tilde most fs used v (is_outermost fs)
after_star most fs used v t = star_then most fs used v t (begins_operand t)

-- a token after an operand, a star and a tilde, at the outermost level
abbrev pub after_star_tilde : Limits → List TermFrame → ℕ → Term → Token → TermStep
after_star_tilde most fs used v (tokens.Check w) =
    EndsTilde ((fold_to 0 fs (Mark postfix.Closure v)).1)
after_star_tilde most fs used v t = operand most (InPrefix ∷ infix_at Product fs v) used t

abbrev pub expression_step : Limits → List TermFrame → ℕ → TermExpectation → Token → TermStep
expression_step most fs used Wants t = operand most fs used t
expression_step most fs used HasBrace t = after_brace fs used t
expression_step most fs used (HasName n) t = after_name most fs used n t
expression_step most fs used (Has v) t = operand_after most fs used v t
expression_step most fs used (HasStar v) t = after_star most fs used v t
expression_step most fs used (HasStarTilde v) t = after_star_tilde most fs used v t
