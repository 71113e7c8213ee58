-- The tokens of a text, each with the byte that it begins at.
use Rattle.std.specs.Prelude.{ℕ, zero, suc, ◌+◌, ◌-◌, List, [], ◌∷◌, Bool, ◌||◌, ◌&&◌, ◌==◌, not, Option, Some, None, length, take, drop, slice_index, if◌then◌else◌}
use Rattle.std.specs.List.{position_or_len}
use Rattle.cat_tokens.specs.Words.{word_token}
use Rattle.cat_tokens.specs.Tokens.{TokenAt}
use Rattle.text_values.specs.Letters.{is_letter, is_digit}
use Rattle.text_values.specs.Layout.{is_blank, is_line_end, quoted_from, comment_of}
use Rattle.cat_tokens.specs.declared.rule.CatRule.TheVariants as rules
use Rattle.cat_tokens.specs.declared.token.Sign.TheVariants.{Bar, Semicolon, Backslash, Ampersand}
use Rattle.cat_tokens.specs.declared.token.Mark.TheVariants.{Plus, Question, Inverse}
use Rattle.cat_tokens.specs.declared.token.Token.{Token}
use Rattle.cat_tokens.specs.declared.token.Token.TheVariants as tokens
use Rattle.cat_tokens.specs.declared.lexer.NextLexeme.{NextLexeme}
use Rattle.cat_tokens.specs.declared.lexer.NextLexeme.TheVariants.{Layout, Lexeme}

abbrev pub is_layout : ℕ → Bool
is_layout b = is_blank b || b == 10

abbrev pub is_name_byte : ℕ → Bool
is_name_byte b = is_letter b || is_digit b || b == 95 || b == 46 || b == 45

abbrev pub ends_name : ℕ → Bool
ends_name b = not (is_name_byte b)

-- a comment that does not end is no token
abbrev pub comment_lexeme : ℕ → Option ℕ → NextLexeme
comment_lexeme all (Some n) = Layout n
comment_lexeme all None = Lexeme (tokens.Broken rules.Syntax) all

-- a string, without its quotes
abbrev pub quoted_lexeme : List ℕ → Option ℕ → NextLexeme
quoted_lexeme bs (Some n) = Lexeme (tokens.Quoted (take (n - 2) (drop 1 bs))) n
quoted_lexeme bs None = Lexeme (tokens.Broken rules.Syntax) (length bs)

abbrev pub word_lexeme : List ℕ → ℕ → NextLexeme
word_lexeme bs n = Lexeme (word_token (take n bs)) n

-- a token of one byte, or none
unfoldable pub sign_token : ℕ → Token
sign_token b =
    if b == 124 then tokens.Sign Bar else (
    if b == 59 then tokens.Sign Semicolon else (
    if b == 92 then tokens.Sign Backslash else (
    if b == 38 then tokens.Sign Ampersand else (
    if b == 43 then tokens.Mark Plus else (
    if b == 63 then tokens.Mark Question else (
    if b == 42 then tokens.Star else (
    if b == 126 then tokens.Tilde else (
    if b == 40 then tokens.Open else (
    if b == 41 then tokens.Close else (
    if b == 91 then tokens.OpenSquare else (
    if b == 93 then tokens.CloseSquare else (
    if b == 123 then tokens.OpenBrace else (
    if b == 125 then tokens.CloseBrace else (
    if b == 95 then tokens.Underscore else (
    if b == 48 then tokens.Zero else (
    if b == 44 then tokens.Comma else (
    if b == 61 then tokens.Equals else tokens.Broken rules.Token)))))))))))))))))

-- a mark of two or three bytes, or one of one byte
abbrev pub sign_lexeme : List ℕ → NextLexeme
sign_lexeme bs =
    if slice_index bs 0 == 43 && slice_index bs 1 == 43 then Lexeme
    (tokens.Broken rules.Unsupported) 2
    else (
    if slice_index bs 0 == 94 && slice_index bs 1 == 45 && slice_index bs 2 == 49 then Lexeme
    (tokens.Mark Inverse) 3
    else Lexeme (sign_token (slice_index bs 0)) 1)

-- what a text begins with, and how many bytes it takes
unfoldable pub first_model_lexeme : List ℕ → NextLexeme
first_model_lexeme bs =
    if is_layout (slice_index bs 0) then Layout 1 else (
    if is_letter (slice_index bs 0) then word_lexeme bs (position_or_len ends_name bs) else (
    if slice_index bs 0 == 47 && slice_index bs 1 == 47 then Layout (position_or_len is_line_end bs)
    else (
    if slice_index bs 0 == 40 && slice_index bs 1 == 42 then comment_lexeme (length bs)
    (comment_of bs)
    else (
    if slice_index bs 0 == 34 then quoted_lexeme bs (quoted_from bs) else sign_lexeme bs))))

-- ---- all tokens of a text

abbrev pub after_lexeme : ℕ → NextLexeme → (ℕ → List TokenAt) → List TokenAt
after_lexeme offset (Layout n) later = later (n - 1)
after_lexeme offset (Lexeme t n) later = record { token = t; offset = offset } ∷ later (n - 1)

-- the tokens of a text that begins at an offset, once skip bytes are passed over, and its end
unfoldable pub tokens_from : ℕ → ℕ → List ℕ → List TokenAt
tokens_from skip offset [] = record { token = tokens.End; offset = offset } ∷ []
tokens_from (suc skip) offset (b ∷ bs) = tokens_from skip (offset + 1) bs
tokens_from zero offset (b ∷ bs) =
    after_lexeme offset (first_model_lexeme (b ∷ bs)) (λ skip. tokens_from skip (offset + 1) bs)

abbrev pub model_lexing : List ℕ → List TokenAt
model_lexing bytes = tokens_from 0 0 bytes
