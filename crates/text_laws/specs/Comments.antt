-- Comments as they nest: what a comment holds is a tree, whose brackets are `(*` and `*)`. And what
-- a string holds.
use Rattle.std.specs.Prelude.{◌≡◌, ℕ, ◌+◌, ◌<◌, List, ◌∷◌, Bool, false, ◌||◌, ◌&&◌, ◌==◌, length, slice_index}
use Rattle.text_values.specs.Layout.{is_quote}

abbrev pub begins_comment : List ℕ → Bool
begins_comment bs = slice_index bs 0 == 40 && slice_index bs 1 == 42

abbrev pub ends_comment : List ℕ → Bool
ends_comment bs = slice_index bs 0 == 42 && slice_index bs 1 == 41

-- what a comment holds: bytes and comments
pub data Inside : Type 0 where
  Nothing : Inside
  Byte : (byte : ℕ) (more : Inside) → Inside
  Nested : (inner more : Inside) → Inside

-- its bytes, and then rest
abbrev pub spelled : Inside → List ℕ → List ℕ
spelled Nothing rest = rest
spelled (Byte b more) rest = b ∷ spelled more rest
spelled (Nested inner more) rest = 40 ∷ 42 ∷ spelled inner (42 ∷ 41 ∷ spelled more rest)

-- none of its bytes begins `(*` or `*)`, beside those of its comments
abbrev pub IsPlain : Inside → List ℕ → Type 0
IsPlain Nothing rest = Unit {0}
IsPlain (Byte b more) rest =
    ((begins_comment (b ∷ spelled more rest) || ends_comment (b ∷ spelled more rest)) ≡ false)
    × IsPlain more rest
IsPlain (Nested inner more) rest = IsPlain inner (42 ∷ 41 ∷ spelled more rest) × IsPlain more rest

-- the text begins with a comment of n bytes
pub record BeginsWithComment (bytes : List ℕ) (n : ℕ) : Type 0 where
  pub inside : Inside
  pub rest : List ℕ
  pub plain : IsPlain inside (42 ∷ 41 ∷ rest)
  pub whole : bytes ≡ 40 ∷ 42 ∷ spelled inside (42 ∷ 41 ∷ rest)
  pub long : n + length rest ≡ length bytes

-- ---- strings

-- what stands between the quotes of a string
abbrev pub LacksQuote : List ℕ → Type 0
LacksQuote s = (k : ℕ) → k < length s → is_quote (slice_index s k) ≡ false
