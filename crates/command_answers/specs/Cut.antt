-- Where a model and a test are cut apart.
use Rattle.std.specs.Prelude.{◌≡◌, ℕ, ◌+◌, ◌-◌, ◌<◌, ◌⊎◌, List, [], length, take, drop, slice_index}

-- at this offset begins a line that is exactly a full stop
pub record IsDotLine (bytes : List ℕ) (at_byte : ℕ) : Type 0 where
  pub inside : at_byte < length bytes
  pub dot : slice_index bytes at_byte ≡ 46
  pub begins : 0 < at_byte → slice_index bytes (at_byte - 1) ≡ 10
  pub ends : at_byte + 1 < length bytes → slice_index bytes (at_byte + 1) ≡ 10

-- no such line begins before this offset
abbrev pub HasNoDotLine : List ℕ → ℕ → Type 0
HasNoDotLine bytes n = (j : ℕ) → j < n → IsDotLine bytes j → ⊥

-- the first such line is at this offset, and the texts stand before and after it
pub record IsCutAt (bytes model test : List ℕ) (at_byte : ℕ) : Type 0 where
  pub here : IsDotLine bytes at_byte
  pub first : HasNoDotLine bytes at_byte
  pub before : model ≡ take at_byte bytes
  pub after : test ≡ drop (at_byte + 2) bytes

-- there is no such line, and all is the model
pub record IsUncut (bytes model test : List ℕ) : Type 0 where
  pub none : HasNoDotLine bytes (length bytes)
  pub whole : model ≡ bytes
  pub empty : test ≡ []

-- the texts before and after the first line that is exactly a full stop
abbrev pub IsInputCut : List ℕ → List ℕ → List ℕ → Type 0
IsInputCut bytes model test = ((i : ℕ) × IsCutAt bytes model test i) ⊎ IsUncut bytes model test
