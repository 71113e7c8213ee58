-- The tokens of the text of a test: in each part the pieces that its tokens are written as, none of
-- which goes on, with gaps between them.
use Rattle.std.specs.Prelude.{◌≡◌, ℕ, ◌+◌, ◌<◌, ◌≤◌, List, [], ◌∷◌, ◌++◌, Bool, true, false, ◌||◌, ◌&&◌, ◌==◌, not, length, slice_index, Option, Some, None, if◌then◌else◌}
use Rattle.text_values.specs.Letters.{is_letter, is_digit}
use Rattle.text_values.specs.Layout.{is_blank, is_line_end}
use Rattle.text_laws.specs.Comments.{LacksQuote, begins_comment, BeginsWithComment}
use Rattle.litmus_tokens.specs.declared.rule.LitmusRule.TheVariants as rules
use Rattle.litmus_tokens.specs.declared.stage.Stage.{Stage}
use Rattle.litmus_tokens.specs.declared.stage.Stage.TheVariants.{Magic, Title, TitleEnd, Head, CellBegins}
use Rattle.litmus_tokens.specs.declared.token.Mark as mark
use Rattle.litmus_tokens.specs.declared.token.Mark.TheVariants.{And, Or, Implies}
use Rattle.litmus_tokens.specs.declared.token.Token.{Token}
use Rattle.litmus_tokens.specs.declared.token.Token.TheVariants as tokens
use Rattle.litmus_tokens.specs.Lexer.{is_not_ascii, is_word_byte, ends_raw, word_token, significant, mark_of}
use Rattle.litmus_tokens.specs.Stage.{next_stage}
use Rattle.litmus_tokens.specs.Texts.{TokenAt, ends_line, fresh_after}

-- ---- gaps

-- a blank, a line end where none is wanted, or a comment
pub data IsTestGap (stage : Stage) (s rest : List ℕ) : Type 0 where
  Blank : (b : ℕ) → is_blank b ≡ true → s ≡ b ∷ [] → IsTestGap stage s rest
  LineEnd : (stage ≡ TitleEnd → ⊥) → (b : ℕ) → is_line_end b ≡ true → s ≡ b ∷ []
      → IsTestGap stage s rest
  Comment : BeginsWithComment (s ++ rest) (length s) → IsTestGap stage s rest

abbrev pub begins_gap : List ℕ → Bool
begins_gap bs = is_blank (slice_index bs 0) || begins_comment bs

-- ---- words, labels and lines

-- every byte passes, and the next one does not
pub record IsByteRun (p : ℕ → Bool) (s rest : List ℕ) : Type 0 where
  pub each : (k : ℕ) → k < length s → p (slice_index s k) ≡ true
  pub ends : 0 < length rest → p (slice_index rest 0) ≡ false

-- a letter or `_`, and all letters, digits and `_` behind it
pub record IsWordLexeme (s rest : List ℕ) : Type 0 where
  pub first : (is_letter (slice_index s 0) || slice_index s 0 == 95) ≡ true
  pub run : IsByteRun is_word_byte s rest

-- all bytes up to a space, a line end, a comment or a byte that is not ASCII
pub record IsRaw (s rest : List ℕ) : Type 0 where
  pub some : 0 < length s
  pub each : (k : ℕ) → k < length s
      → ends_raw (slice_index (s ++ rest) k) (slice_index (s ++ rest) (k + 1)) ≡ false
  pub ends : 0 < length rest → ends_raw (slice_index rest 0) (slice_index rest 1) ≡ true

abbrev pub gaps_text : List (List ℕ) → List ℕ
gaps_text [] = []
gaps_text (g ∷ gs) = g ++ gaps_text gs

abbrev pub AreGaps : List (List ℕ) → List ℕ → Type 0
AreGaps [] rest = Unit {0}
AreGaps (g ∷ gs) rest = IsTestGap CellBegins g (gaps_text gs ++ rest) × AreGaps gs rest

-- a word, gaps and a colon
pub record IsLabelLexeme (word s rest : List ℕ) : Type 0 where
  pub gaps : List (List ℕ)
  pub is_word : IsWordLexeme word (gaps_text gaps ++ 58 ∷ rest)
  pub between : AreGaps gaps (58 ∷ rest)
  pub whole : s ≡ word ++ (gaps_text gaps ++ 58 ∷ [])

-- the line that a text begins with
pub record IsFirstLine (line behind : List ℕ) : Type 0 where
  pub each : (k : ℕ) → k < length line → is_line_end (slice_index line k) ≡ false
  pub ends : 0 < length behind → is_line_end (slice_index behind 0) ≡ true

-- no `=` stands in it
abbrev pub LacksEquals : List ℕ → Type 0
LacksEquals line = (k : ℕ) → k < length line → (slice_index line k == 61) ≡ false

-- a line that begins with a letter and holds a `=`, up to its end or to its first byte that is not
-- ASCII
pub record IsKeyline (s rest : List ℕ) : Type 0 where
  pub line : List ℕ
  pub behind : List ℕ
  pub is_line : IsFirstLine line behind
  pub whole : s ++ rest ≡ line ++ behind
  pub letter : is_letter (slice_index line 0) ≡ true
  pub equals : ℕ
  pub in_line : equals < length line
  pub is_equals : (slice_index line equals == 61) ≡ true
  pub within : length s ≤ length line
  pub ascii : (k : ℕ) → k < length s → is_not_ascii (slice_index line k) ≡ false
  pub stops : length s < length line → is_not_ascii (slice_index line (length s)) ≡ true

-- ---- lexemes

-- where the first line's words stand
abbrev pub is_first : Stage → Bool
is_first Magic = true
is_first Title = true
is_first s = false

-- where words, numbers and marks stand: behind the first line, but for quotes, and lines that begin
-- with a letter, before the init block
abbrev pub is_plain : Stage → Bool → ℕ → Bool
is_plain Magic fresh b = false
is_plain Title fresh b = false
is_plain TitleEnd fresh b = false
is_plain Head fresh b = not ((fresh && is_letter b) || b == 34)
is_plain s fresh b = true

-- `/\`, `\/` and `=>`
abbrev pub double_of : ℕ → ℕ → Option mark.Mark
double_of a b =
    if a == 47 && b == 92 then Some And else (
    if a == 92 && b == 47 then Some Or else (
    if a == 61 && b == 62 then Some Implies else None))

-- where a cell begins, the word is not that of a label
abbrev pub IsNoLabel : Stage → List ℕ → List ℕ → Type 0
IsNoLabel stage s rest =
    stage ≡ CellBegins → (label others : List ℕ) → label ++ others ≡ s ++ rest
    → IsLabelLexeme s label others → ⊥

-- the token of a piece, in a part of a test, on a line that holds nothing but blanks so far or on
-- another
pub data IsTestLexeme (stage : Stage) (fresh : Bool) (t : Token) (s rest : List ℕ) : Type 0 where
  FirstWord : is_first stage ≡ true → IsRaw s rest → t ≡ tokens.Word s
      → IsTestLexeme stage fresh t s rest
  NameEnd : stage ≡ TitleEnd → (b : ℕ) → is_line_end b ≡ true → s ≡ b ∷ [] → t ≡ tokens.LineEnd
      → IsTestLexeme stage fresh t s rest
  Keyline : stage ≡ Head → fresh ≡ true → IsKeyline s rest → t ≡ tokens.Keyline
      → IsTestLexeme stage fresh t s rest
  Quoted : stage ≡ Head → (inside : List ℕ) → LacksQuote inside → s ≡ 34 ∷ (inside ++ 34 ∷ [])
      → t ≡ tokens.Text
      → IsTestLexeme stage fresh t s rest
  Word : is_plain stage fresh (slice_index s 0) ≡ true → IsWordLexeme s rest
      → IsNoLabel stage s rest → t ≡ word_token stage s → IsTestLexeme stage fresh t s rest
  Label : stage ≡ CellBegins → (word : List ℕ) → IsLabelLexeme word s rest → t ≡ tokens.Label word
      → IsTestLexeme stage fresh t s rest
  Number : is_plain stage fresh (slice_index s 0) ≡ true → 0 < length s → IsByteRun is_digit s rest
      → t ≡ tokens.Number false (significant s) → IsTestLexeme stage fresh t s rest
  Negative : is_plain stage fresh 45 ≡ true → (digits : List ℕ) → 0 < length digits
      → IsByteRun is_digit digits rest
      → s ≡ 45 ∷ digits → t ≡ tokens.Number true (significant digits)
      → IsTestLexeme stage fresh t s rest
  Double : (a b : ℕ) (m : mark.Mark) → is_plain stage fresh a ≡ true → double_of a b ≡ Some m
      → s ≡ a ∷ b ∷ []
      → t ≡ tokens.Mark m → IsTestLexeme stage fresh t s rest
  Single : (b : ℕ) (m : mark.Mark) → is_plain stage fresh b ≡ true → begins_gap (s ++ rest) ≡ false
      → double_of b (slice_index rest 0) ≡ None → mark_of b ≡ Some m → s ≡ b ∷ []
      → t ≡ tokens.Mark m
      → IsTestLexeme stage fresh t s rest
  -- a byte that is not ASCII, wherever it stands, and a comment that does not end, through the end
  -- of the text
  NotAscii : (b : ℕ) → is_not_ascii b ≡ true → s ≡ b ∷ [] → t ≡ tokens.Broken rules.NotAscii
      → IsTestLexeme stage fresh t s rest
  OpenComment : begins_comment s ≡ true → ((n : ℕ) → BeginsWithComment s n → ⊥) → rest ≡ []
      → t ≡ tokens.Broken rules.OpenComment → IsTestLexeme stage fresh t s rest
  -- what is none of these: behind the name, a line that is no keyline, a quote without its end, and
  -- a byte that begins nothing
  NoNameEnd : stage ≡ TitleEnd → (b : ℕ) → is_line_end b ≡ false → is_not_ascii b ≡ false
      → begins_gap (s ++ rest) ≡ false → s ≡ b ∷ [] → t ≡ tokens.Bad
      → IsTestLexeme stage fresh t s rest
  NoKeyline : stage ≡ Head → fresh ≡ true → (b : ℕ) → is_letter b ≡ true → (line behind : List ℕ)
      → IsFirstLine line behind
      → s ++ rest ≡ line ++ behind → LacksEquals line → s ≡ b ∷ [] → t ≡ tokens.Bad
      → IsTestLexeme stage fresh t s rest
  NoQuoted : stage ≡ Head → LacksQuote rest → s ≡ 34 ∷ [] → t ≡ tokens.Bad
      → IsTestLexeme stage fresh t s rest
  NoToken : (b : ℕ) → is_plain stage fresh b ≡ true → is_not_ascii b ≡ false
      → begins_gap (s ++ rest) ≡ false
      → is_line_end b ≡ false → is_word_byte b ≡ false
      → (b == 45 && is_digit (slice_index rest 0)) ≡ false
      → double_of b (slice_index rest 0) ≡ None → mark_of b ≡ None → s ≡ b ∷ [] → t ≡ tokens.Bad
      → IsTestLexeme stage fresh t s rest

-- ---- a whole text

pub data TestPiece : Type 0 where
  Gap : (text : List ℕ) → TestPiece
  Lexeme : (token : Token) (text : List ℕ) → TestPiece

abbrev pub test_text_of : List TestPiece → List ℕ
test_text_of [] = []
test_text_of (Gap s ∷ ps) = s ++ test_text_of ps
test_text_of (Lexeme t s ∷ ps) = s ++ test_text_of ps

-- each token leads to the part of the next; a line is fresh again behind a line end
abbrev pub ArePieces : Stage → Bool → List TestPiece → Type 0
ArePieces stage fresh [] = Unit {0}
ArePieces stage fresh (Gap s ∷ ps) =
    IsTestGap stage s (test_text_of ps) × ArePieces stage (fresh_after fresh (slice_index s 0)) ps
ArePieces stage fresh (Lexeme t s ∷ ps) =
    IsTestLexeme stage fresh t s (test_text_of ps) × ArePieces (next_stage stage t) (ends_line t) ps

-- the tokens of pieces that begin at an offset, and the end
abbrev pub tokens_at : ℕ → List TestPiece → List TokenAt
tokens_at n [] = record { token = tokens.End; offset = n } ∷ []
tokens_at n (Gap s ∷ ps) = tokens_at (n + length s) ps
tokens_at n (Lexeme t s ∷ ps) = record { token = t; offset = n } ∷ tokens_at (n + length s) ps

-- the text, from this part on, is cut into gaps and lexemes, of which these are the tokens
pub record IsTestCut (stage : Stage) (bytes : List ℕ) (ps : List TokenAt) : Type 0 where
  pub pieces : List TestPiece
  pub fine : ArePieces stage false pieces
  pub whole : test_text_of pieces ≡ bytes
  pub tokens : tokens_at 0 pieces ≡ ps

-- each token begins behind the one before it, from this offset on
abbrev pub AreTestRising : ℕ → List TokenAt → Type 0
AreTestRising n [] = Unit {0}
AreTestRising n (p ∷ ps) = (n ≤ p.offset) × AreTestRising (p.offset + 1) ps
