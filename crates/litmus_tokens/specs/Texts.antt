-- The tokens of a text, with their offsets.
use Rattle.std.specs.Prelude.{◌≡◌, ℕ, zero, suc, ◌+◌, ◌-◌, List, [], ◌∷◌, ◌++◌, Bool, true, false, ◌||◌, ◌&&◌}
use Rattle.text_values.specs.Layout.{is_blank, is_line_end}
use Rattle.litmus_tokens.specs.declared.stage.Stage.{Stage}
use Rattle.litmus_tokens.specs.declared.token.Token.{Token}
use Rattle.litmus_tokens.specs.declared.token.Token.TheVariants as tokens
use Rattle.litmus_tokens.specs.declared.lexer.NextLexeme.{NextLexeme}
use Rattle.litmus_tokens.specs.declared.lexer.NextLexeme.TheVariants.{Layout, Lexeme}
use Rattle.litmus_tokens.specs.Lexer.{first_lexeme}
use Rattle.litmus_tokens.specs.Stage.{next_stage}
use Rattle.litmus_tokens.specs.declared.token.Mark.TheVariants.{Tilde}
use Rattle.litmus_tokens.specs.Words.{ends_table}

-- a token and the byte that it begins at
pub record TokenAt : Type 0 where
  pub token : Token
  pub offset : ℕ

abbrev pub test_tokens_of : List TokenAt → List Token
test_tokens_of [] = []
test_tokens_of (p ∷ ps) = p.token ∷ test_tokens_of ps

-- the part that the token behind these stands in
abbrev pub stage_after : Stage → List Token → Stage
stage_after s [] = s
stage_after s (t ∷ ts) = stage_after (next_stage s t) ts

abbrev pub are_none : List Token → Bool
are_none [] = true
are_none (t ∷ ts) = false

abbrev pub ends_line : Token → Bool
ends_line tokens.LineEnd = true
ends_line t = false

-- the end of the text
abbrev pub is_end : Token → Bool
is_end tokens.End = true
is_end t = false

-- a token that begins what stands behind the table
abbrev pub begins_tail : Token → Bool
begins_tail (tokens.Word w) = ends_table w
begins_tail (tokens.Mark Tilde) = true
begins_tail t = false

-- a line is fresh that holds nothing but blanks so far
abbrev pub fresh_after : Bool → ℕ → Bool
fresh_after fresh b = is_line_end b || (fresh && is_blank b)

abbrev pub after_lexeme : Stage → Bool → ℕ → ℕ → NextLexeme → (Stage → Bool → ℕ → List TokenAt)
    → List TokenAt
after_lexeme s fresh offset b (Layout n) later = later s (fresh_after fresh b) (n - 1)
after_lexeme s fresh offset b (Lexeme t n) later =
    record { token = t; offset = offset } ∷ later (next_stage s t) (ends_line t) (n - 1)

-- the tokens of a text that begins in a part, at an offset, once skip bytes are passed over, and
-- its end
unfoldable pub tokens_from : Stage → Bool → ℕ → ℕ → List ℕ → List TokenAt
tokens_from s fresh skip offset [] = record { token = tokens.End; offset = offset } ∷ []
tokens_from s fresh (suc skip) offset (b ∷ bs) = tokens_from s fresh skip (offset + 1) bs
tokens_from s fresh zero offset (b ∷ bs) =
    after_lexeme s fresh offset b (first_lexeme s fresh (b ∷ bs)) (λ s' fresh' skip.
    tokens_from s' fresh' skip (offset + 1) bs)

abbrev pub test_lexing : Stage → List ℕ → List TokenAt
test_lexing s bytes = tokens_from s false 0 0 bytes

-- the token behind these stands at this offset
pub record StandsAt (ps : List TokenAt) (ts : List Token) (offset : ℕ) : Type 0 where
  pub before : List TokenAt
  pub here : TokenAt
  pub behind : List TokenAt
  pub split : ps ≡ before ++ here ∷ behind
  pub same : test_tokens_of before ≡ ts
  pub at_place : here.offset ≡ offset
