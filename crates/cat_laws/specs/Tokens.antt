-- The tokens of the text of a model: its longest pieces that spell tokens, with gaps between them.
use Rattle.std.specs.Prelude.{◌≡◌, ℕ, ◌+◌, ◌<◌, ◌≤◌, List, [], ◌∷◌, ◌++◌, Bool, true, false, ◌||◌, ◌&&◌, ◌==◌, codes, length, slice_index}
use Rattle.text_values.specs.Letters.{is_letter}
use Rattle.text_values.specs.Layout.{is_line_end, is_quote}
use Rattle.text_laws.specs.Comments.{LacksQuote, begins_comment, BeginsWithComment}
use Rattle.cat_tokens.specs.declared.rule.CatRule.TheVariants as rules
use Rattle.cat_tokens.specs.declared.token.Mark.TheVariants.{Inverse}
use Rattle.cat_tokens.specs.declared.token.Token.{Token}
use Rattle.cat_tokens.specs.declared.token.Token.TheVariants as tokens
use Rattle.cat_tokens.specs.Tokens.{TokenAt}
use Rattle.cat_tokens.specs.Words.{word_token}
use Rattle.cat_tokens.specs.Lexer.{is_layout, is_name_byte, sign_token}

-- ---- what spells a token

-- a letter, and then letters, digits, `_`, `.` and `-`
pub record IsWord (s : List ℕ) : Type 0 where
  pub first : is_letter (slice_index s 0) ≡ true
  pub each : (k : ℕ) → k < length s → is_name_byte (slice_index s k) ≡ true

-- one of `| ; \ & + ? * ~ ( ) [ ] { } _ 0 , =`
abbrev pub is_sign : ℕ → Bool
is_sign b =
    b == 124 || (b == 59 || (b == 92 || (b == 38 || (b == 43 || (b == 63 || (b == 42 || (b == 126
    || (
    b == 40 || (b == 41 || (b == 91 || (b == 93 || (b == 123 || (b == 125 || (
    b == 95 || (b == 48 || (b == 44 || b == 61))))))))))))))))

pub data Spells (s : List ℕ) (t : Token) : Type 0 where
  -- a name or a keyword
  Word : IsWord s → t ≡ word_token s → Spells s t
  -- a string, with its quotes
  String : (inside : List ℕ) → LacksQuote inside → s ≡ 34 ∷ (inside ++ 34 ∷ [])
      → t ≡ tokens.Quoted inside → Spells s t
  -- one byte
  Sign : (b : ℕ) → is_sign b ≡ true → s ≡ b ∷ [] → t ≡ sign_token b → Spells s t
  -- `^-1`
  Inversion : s ≡ codes "^-1" → t ≡ tokens.Mark Inverse → Spells s t
  -- `++`, which models may not use
  Plusses : s ≡ codes "++" → t ≡ tokens.Broken rules.Unsupported → Spells s t

-- ---- pieces of a text, with the rest of the text

abbrev pub begins_line_comment : List ℕ → Bool
begins_line_comment bs = slice_index bs 0 == 47 && slice_index bs 1 == 47

abbrev pub begins_gap : List ℕ → Bool
begins_gap bs = is_layout (slice_index bs 0) || (begins_comment bs || begins_line_comment bs)

-- a blank or a line end, a comment, or a comment to the end of its line
pub data IsModelGap (s rest : List ℕ) : Type 0 where
  Blank : (b : ℕ) → is_layout b ≡ true → s ≡ b ∷ [] → IsModelGap s rest
  Comment : BeginsWithComment (s ++ rest) (length s) → IsModelGap s rest
  Line : begins_line_comment s ≡ true
      → ((k : ℕ) → k < length s → is_line_end (slice_index s k) ≡ false)
      → (0 < length rest → is_line_end (slice_index rest 0) ≡ true) → IsModelGap s rest

-- no longer beginning of the text spells a token
abbrev pub IsLongest : List ℕ → List ℕ → Type 0
IsLongest s rest =
    (longer others : List ℕ) (t : Token) → longer ++ others ≡ s ++ rest → Spells longer t
    → length longer ≤ length s

-- no beginning of the text spells a token
abbrev pub SpellsNone : List ℕ → Type 0
SpellsNone text = (prefix others : List ℕ) (t : Token) → prefix ++ others ≡ text → Spells prefix t → ⊥

-- the token of a piece where no gap begins
pub data IsModelLexeme (t : Token) (s rest : List ℕ) : Type 0 where
  -- the longest piece that spells a token
  Spelled : begins_gap (s ++ rest) ≡ false → Spells s t → IsLongest s rest → IsModelLexeme t s rest
  -- a byte that begins none
  NoToken : (b : ℕ) → is_quote b ≡ false → s ≡ b ∷ [] → begins_gap (s ++ rest) ≡ false
      → SpellsNone (s ++ rest)
      → t ≡ tokens.Broken rules.Token → IsModelLexeme t s rest
  -- a comment that does not end, through the end of the text
  OpenComment : begins_comment s ≡ true → ((n : ℕ) → BeginsWithComment s n → ⊥) → rest ≡ []
      → t ≡ tokens.Broken rules.Syntax → IsModelLexeme t s rest
  -- a string that does not end
  OpenString : (inside : List ℕ) → LacksQuote inside → s ≡ 34 ∷ inside → rest ≡ []
      → t ≡ tokens.Broken rules.Syntax → IsModelLexeme t s rest

pub data ModelPiece : Type 0 where
  Gap : (text : List ℕ) → ModelPiece
  Lexeme : (token : Token) (text : List ℕ) → ModelPiece

abbrev pub model_text_of : List ModelPiece → List ℕ
model_text_of [] = []
model_text_of (Gap s ∷ ps) = s ++ model_text_of ps
model_text_of (Lexeme t s ∷ ps) = s ++ model_text_of ps

abbrev pub ArePieces : List ModelPiece → Type 0
ArePieces [] = Unit {0}
ArePieces (Gap s ∷ ps) = IsModelGap s (model_text_of ps) × ArePieces ps
ArePieces (Lexeme t s ∷ ps) = IsModelLexeme t s (model_text_of ps) × ArePieces ps

-- the tokens of pieces that begin at an offset, and the end
abbrev pub tokens_at : ℕ → List ModelPiece → List TokenAt
tokens_at n [] = record { token = tokens.End; offset = n } ∷ []
tokens_at n (Gap s ∷ ps) = tokens_at (n + length s) ps
tokens_at n (Lexeme t s ∷ ps) = record { token = t; offset = n } ∷ tokens_at (n + length s) ps

-- ---- a whole text

-- the text is cut into gaps and lexemes, of which these are the tokens
pub record IsModelCut (bytes : List ℕ) (ps : List TokenAt) : Type 0 where
  pub pieces : List ModelPiece
  pub fine : ArePieces pieces
  pub whole : model_text_of pieces ≡ bytes
  pub tokens : tokens_at 0 pieces ≡ ps

-- each token begins behind the one before it, from this offset on
abbrev pub AreModelRising : ℕ → List TokenAt → Type 0
AreModelRising n [] = Unit {0}
AreModelRising n (p ∷ ps) = (n ≤ p.offset) × AreModelRising (p.offset + 1) ps
