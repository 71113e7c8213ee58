-- What a text begins with, by the part that it stands in.
use Rattle.std.specs.Prelude.{ℕ, zero, suc, ◌+◌, ◌-◌, List, [], ◌∷◌, Bool, true, false, ◌||◌, ◌&&◌, ◌==◌, nat_le, not, Option, Some, None, length, take, drop, slice_index, codes, if◌then◌else◌}
use Rattle.std.specs.List.{position_or_len}
use Rattle.std.specs.Str.{bytes_eq}
use Rattle.text_values.specs.Layout.{is_blank, is_line_end, quoted_from, comment_of}
use Rattle.litmus_tokens.specs.declared.rule.LitmusRule.TheVariants as rules
use Rattle.litmus_tokens.specs.declared.stage.Stage.{Stage}
use Rattle.litmus_tokens.specs.declared.stage.Stage.TheVariants.{Magic, Title, TitleEnd, Head, Header, CellBegins}
use Rattle.litmus_tokens.specs.declared.token.Token.{Token}
use Rattle.litmus_tokens.specs.declared.token.Token.TheVariants as tokens
use Rattle.litmus_tokens.specs.declared.token.Mark as mark
use Rattle.litmus_tokens.specs.declared.token.Mark.TheVariants.{OpenBrace, CloseBrace, OpenBracket, CloseBracket, Open, Close, Comma, Semicolon, Colon, Bar, Equals, Tilde, And, Or, Implies}
use Rattle.litmus_tokens.specs.declared.lexer.NextLexeme.{NextLexeme}
use Rattle.litmus_tokens.specs.declared.lexer.NextLexeme.TheVariants.{Layout, Lexeme}
use Rattle.text_values.specs.Letters.{is_letter, is_digit}

-- ---- bytes

abbrev pub is_not_ascii : ℕ → Bool
is_not_ascii b = nat_le 128 b

abbrev pub is_word_byte : ℕ → Bool
is_word_byte b = is_letter b || is_digit b || b == 95

abbrev pub ends_word : ℕ → Bool
ends_word b = not (is_word_byte b)

abbrev pub ends_digits : ℕ → Bool
ends_digits b = not (is_digit b)

abbrev pub is_equals : ℕ → Bool
is_equals b = b == 61

abbrev pub is_space : ℕ → Bool
is_space b = is_blank b || is_line_end b

abbrev pub begins_comment : List ℕ → Bool
begins_comment bs = slice_index bs 0 == 40 && slice_index bs 1 == 42

-- ---- what may stand between a label and its colon

abbrev pub over : ℕ → Option ℕ → (ℕ → ℕ) → ℕ
over n None later = n
over n (Some k) later = later (k - 1)

-- how many bytes of blanks, line ends and comments a text begins with
unfoldable pub gap_from : ℕ → ℕ → List ℕ → ℕ
gap_from skip n [] = n
gap_from (suc skip) n (b ∷ bs) = gap_from skip (n + 1) bs
gap_from zero n (b ∷ bs) =
    if is_space b then gap_from 0 (n + 1) bs else (
    if begins_comment (b ∷ bs) then over n (comment_of (b ∷ bs)) (λ skip. gap_from skip (n + 1) bs)
    else n)

-- ---- tokens

-- a comment that does not end is no token
abbrev pub comment_lexeme : ℕ → Option ℕ → NextLexeme
comment_lexeme all (Some n) = Layout n
comment_lexeme all None = Lexeme (tokens.Broken rules.OpenComment) all

-- whether a byte, with the one behind it, ends a word of the two that a text begins with
abbrev pub ends_raw : ℕ → ℕ → Bool
ends_raw b next = is_space b || is_not_ascii b || (b == 40 && next == 42)

-- How long a word is that ends before a blank, a line end, a comment or a byte that is not ASCII.
unfoldable pub raw_from : ℕ → List ℕ → ℕ
raw_from n [] = n
raw_from n (b ∷ bs) = if ends_raw b (slice_index bs 0) then n else raw_from (n + 1) bs

abbrev pub raw_lexeme : List ℕ → ℕ → NextLexeme
raw_lexeme bs n =
    if is_line_end (slice_index bs 0) then Layout 1 else Lexeme (tokens.Word (take n bs)) n

-- a text in quotes, which runs to the next quote
abbrev pub quoted_lexeme : Option ℕ → NextLexeme
quoted_lexeme (Some n) = Lexeme tokens.Text n
quoted_lexeme None = Lexeme tokens.Bad 1

-- a line that begins with a letter, a keyline where it holds an equals sign
abbrev pub line_lexeme : List ℕ → NextLexeme
line_lexeme line =
    if position_or_len is_equals line == length line then Lexeme tokens.Bad 1
    else Lexeme tokens.Keyline (position_or_len is_not_ascii line)

-- the ninth thread's name, where it can stand, is no word
abbrev pub word_token : Stage → List ℕ → Token
word_token (Header zero) w =
    if bytes_eq w (codes "P8") then tokens.Broken rules.TooManyThreads else tokens.Word w
word_token s w = tokens.Word w

-- where a cell begins, a word before a colon is a label, and the colon is part of it
abbrev pub label_lexeme : List ℕ → ℕ → ℕ → NextLexeme
label_lexeme bs n gap =
    if slice_index bs (n + gap) == 58 then Lexeme (tokens.Label (take n bs)) (n + gap + 1)
    else Lexeme (tokens.Word (take n bs)) n

abbrev pub word_lexeme : Stage → List ℕ → ℕ → NextLexeme
word_lexeme CellBegins bs n = label_lexeme bs n (gap_from 0 0 (drop n bs))
word_lexeme s bs n = Lexeme (word_token s (take n bs)) n

-- digits without the zeros that lead them
abbrev pub significant : List ℕ → List ℕ
significant [] = []
significant (d ∷ ds) = if d == 48 then significant ds else d ∷ ds

abbrev pub number_lexeme : List ℕ → ℕ → NextLexeme
number_lexeme bs n = Lexeme (tokens.Number false (significant (take n bs))) n

abbrev pub minus_lexeme : List ℕ → ℕ → NextLexeme
minus_lexeme ds n = Lexeme (tokens.Number true (significant (take n ds))) (n + 1)

-- a mark of one sign
abbrev pub mark_of : ℕ → Option mark.Mark
mark_of b =
    if b == 123 then Some OpenBrace else (
    if b == 125 then Some CloseBrace else (
    if b == 91 then Some OpenBracket else (
    if b == 93 then Some CloseBracket else (
    if b == 40 then Some Open else (
    if b == 41 then Some Close else (
    if b == 44 then Some Comma else (
    if b == 59 then Some Semicolon else (
    if b == 58 then Some Colon else (
    if b == 124 then Some Bar else (
    if b == 61 then Some Equals else (
    if b == 126 then Some Tilde else None)))))))))))

abbrev pub mark_lexeme : Option mark.Mark → NextLexeme
mark_lexeme (Some m) = Lexeme (tokens.Mark m) 1
mark_lexeme None = Lexeme tokens.Bad 1

abbrev pub sign_lexeme : ℕ → ℕ → NextLexeme
sign_lexeme b next =
    if b == 47 && next == 92 then Lexeme (tokens.Mark And) 2 else (
    if b == 92 && next == 47 then Lexeme (tokens.Mark Or) 2 else (
    if b == 61 && next == 62 then Lexeme (tokens.Mark Implies) 2 else mark_lexeme (mark_of b)))

abbrev pub plain_lexeme : Stage → List ℕ → NextLexeme
plain_lexeme s bs =
    if is_line_end (slice_index bs 0) then Layout 1 else (
    if is_letter (slice_index bs 0) || slice_index bs 0 == 95 then word_lexeme s bs
    (position_or_len ends_word bs)
    else (
    if is_digit (slice_index bs 0) then number_lexeme bs (position_or_len ends_digits bs) else (
    if slice_index bs 0 == 45 && is_digit (slice_index bs 1) then minus_lexeme (drop 1 bs)
    (position_or_len ends_digits (drop 1 bs))
    else
    sign_lexeme (slice_index bs 0) (slice_index bs 1))))

abbrev pub head_lexeme : Bool → List ℕ → NextLexeme
head_lexeme fresh bs =
    if fresh && is_letter (slice_index bs 0) then line_lexeme
    (take (position_or_len is_line_end bs) bs)
    else (
    if slice_index bs 0 == 34 then quoted_lexeme (quoted_from bs) else plain_lexeme Head bs)

-- by the part, and before the init block by whether the line holds nothing but blanks so far
abbrev pub stage_lexeme : Stage → Bool → List ℕ → NextLexeme
stage_lexeme Magic fresh bs = raw_lexeme bs (raw_from 0 bs)
stage_lexeme Title fresh bs = raw_lexeme bs (raw_from 0 bs)
stage_lexeme TitleEnd fresh bs =
    if is_line_end (slice_index bs 0) then Lexeme tokens.LineEnd 1 else Lexeme tokens.Bad 1
stage_lexeme Head fresh bs = head_lexeme fresh bs
stage_lexeme s fresh bs = plain_lexeme s bs

unfoldable pub first_lexeme : Stage → Bool → List ℕ → NextLexeme
first_lexeme s fresh bs =
    if is_not_ascii (slice_index bs 0) then Lexeme (tokens.Broken rules.NotAscii) 1 else (
    if is_blank (slice_index bs 0) then Layout 1 else (
    if begins_comment bs then comment_lexeme (length bs) (comment_of bs)
    else stage_lexeme s fresh bs))
