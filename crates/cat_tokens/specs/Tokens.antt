-- What tokens stand for, and where they stand.
use Rattle.std.specs.Prelude.{ℕ, List, [], ◌∷◌, Bool, true, false}
use Rattle.text_values.specs.declared.model.Infix.{Infix}
use Rattle.text_values.specs.declared.model.Infix.TheVariants.{Union, Sequence, Difference, Intersection}
use Rattle.text_values.specs.declared.model.Postfix.{Postfix}
use Rattle.text_values.specs.declared.model.Postfix.TheVariants as postfix
use Rattle.cat_tokens.specs.declared.rule.CatRule.{CatRule}
use Rattle.cat_tokens.specs.declared.rule.CatRule.TheVariants as rules
use Rattle.cat_tokens.specs.declared.token.Sign.{Sign}
use Rattle.cat_tokens.specs.declared.token.Sign.TheVariants.{Bar, Semicolon, Backslash, Ampersand}
use Rattle.cat_tokens.specs.declared.token.Mark as mark
use Rattle.cat_tokens.specs.declared.token.Mark.TheVariants.{Plus, Question, Inverse}
use Rattle.cat_tokens.specs.declared.token.Token.{Token}
use Rattle.cat_tokens.specs.declared.token.Token.TheVariants as tokens

-- the number that a refusal is printed with
abbrev pub digits_number : CatRule → ℕ
digits_number rules.Token = 1
digits_number rules.Syntax = 2
digits_number rules.Include = 3
digits_number rules.Unsupported = 4
digits_number rules.TooMany = 5
digits_number rules.TooDeep = 6
digits_number rules.TooLong = 7

abbrev pub rule_of : Token → CatRule
rule_of (tokens.Broken k) = k
rule_of _ = rules.Syntax

abbrev pub begins_operand : Token → Bool
begins_operand (tokens.Name n) = true
begins_operand tokens.Open = true
begins_operand tokens.OpenSquare = true
begins_operand tokens.OpenBrace = true
begins_operand tokens.Underscore = true
begins_operand tokens.Zero = true
begins_operand _ = false

abbrev pub infix_of : Sign → Infix
infix_of Bar = Union
infix_of Semicolon = Sequence
infix_of Backslash = Difference
infix_of Ampersand = Intersection

abbrev pub postfix_of : mark.Mark → Postfix
postfix_of Plus = postfix.Transitive
postfix_of Question = postfix.Reflexive
postfix_of Inverse = postfix.Inverse

-- a token and the byte that it begins at
pub record TokenAt : Type 0 where
  pub token : Token
  pub offset : ℕ

abbrev pub model_tokens_of : List TokenAt → List Token
model_tokens_of [] = []
model_tokens_of (p ∷ ps) = p.token ∷ model_tokens_of ps
