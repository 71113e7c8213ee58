-- Words of bits as pairs.
use Rattle.std.specs.Prelude.{ℕ, ◌≡◌, ◌<◌, ◌≤◌, ◌+◌, ◌-◌, ◌/◌, ◌%◌, ◌^◌, ◌↔◌, ◌⊎◌, List, length, slice_index}
use Rattle.bit_rows.specs.Relation.{Bit, Relation}

abbrev pub RowsHave : List ℕ → ℕ → ℕ → Type 0
RowsHave rows a b = Bit (slice_index rows a) b

-- each word has 64 bits
abbrev pub AllFit : List ℕ → Type 0
AllFit ws = (a : ℕ) → slice_index ws a < 2 ^ 64

-- the words below the end have these bits, and the others are as they were
pub record AreRowsFilled (old new : List ℕ) (end : ℕ) (P : ℕ → ℕ → Type 0) : Type 0 where
  pub height : length new ≡ length old
  pub fits : AllFit old → AllFit new
  pub inside : (a : ℕ) → a < end → (b : ℕ) → RowsHave new a b ↔ P a b
  pub outside : (a : ℕ) → end ≤ a → slice_index new a ≡ slice_index old a

-- no bit is set
abbrev pub Nothing : ℕ → ℕ → Type 0
Nothing a b = ⊥

-- the bits of words, and those of one word where other words have the bit k
abbrev pub UnionWhere : (ℕ → ℕ → Type 0) → (ℕ → ℕ → Type 0) → ℕ → ℕ → ℕ → ℕ → Type 0
UnionWhere R S k word a b = R a b ⊎ (S a k × Bit word b)

-- the bits of words, and in each the bit of its own event, where the first bit stands for the event
-- `at`
abbrev pub WithOwn : ℕ → (ℕ → ℕ → Type 0) → ℕ → ℕ → Type 0
WithOwn at R a b = R a b ⊎ ((b < 64) × (a ≡ b + at))

-- the bits of one word, for each event that a word has
abbrev pub WordProduct : ℕ → ℕ → ℕ → ℕ → Type 0
WordProduct events word a b = Bit events a × Bit word b

-- the bits of words that one word has too, for each event that a word has
abbrev pub Kept : ℕ → ℕ → (ℕ → ℕ → Type 0) → ℕ → ℕ → Type 0
Kept events word R a b = Bit events a × R a b × Bit word b

-- the bits of one word that the words have not
abbrev pub WordComplement : ℕ → (ℕ → ℕ → Type 0) → ℕ → ℕ → Type 0
WordComplement all R a b = Bit all b × (R a b → ⊥)

-- the bits of words, and those of the rows below the end that R leads to
abbrev pub JoinedBelow : ℕ → (ℕ → ℕ → Type 0) → (ℕ → ℕ → Type 0) → (ℕ → ℕ → Type 0) → ℕ → ℕ → Type 0
JoinedBelow end W R S a b = W a b ⊎ ((c : ℕ) × (c < end) × R a c × S c b)

-- the inverse of the bits, for the events below the end, where the first bit stands for the event
-- `at`
abbrev pub InverseFrom : ℕ → ℕ → (ℕ → ℕ → Type 0) → ℕ → ℕ → Type 0
InverseFrom at end R a b = (b < end) × R (b + at) a

-- the pairs, and those that lead through the middle
abbrev pub Through : ℕ → (ℕ → ℕ → Type 0) → ℕ → ℕ → Type 0
Through middle R a b = R a b ⊎ (R a middle × R middle b)

-- the bits of the words of a list from an index on, where one word has them
abbrev pub Read : List ℕ → ℕ → ℕ → ℕ → ℕ → Type 0
Read list at all a b = Bit (slice_index list (at + a)) b × Bit all b

-- the pairs below n whose bits stand in a list from an index on: the low words, and then the high
-- ones
abbrev pub StoredPairs : List ℕ → ℕ → ℕ → ℕ → ℕ → Type 0
StoredPairs list at n a b =
    (a < n) × (b < n)
    × (((b < 64) × Bit (slice_index list (at + a)) b)
    ⊎ ((k : ℕ) × (b ≡ k + 64) × Bit (slice_index list (at + n + a)) k))

-- the words of a relation stand in a list from an offset on: the low words, and where it is on over
-- 64 events the high ones
pub record AreStored (list : List ℕ) (at : ℕ) (r : Relation) : Type 0 where
  pub low : (a : ℕ) → a < r.count → slice_index list (at + a) ≡ slice_index r.rows a % 2 ^ 64
  pub high : 64 < r.count → (a : ℕ) → a < r.count
      → slice_index list (at + r.count + a) ≡ slice_index r.rows a / 2 ^ 64

-- the bits of words, and those of the words of others, from an index on, that the lowest bits of S
-- name
abbrev pub JoinedFrom : ℕ → ℕ → (ℕ → ℕ → Type 0) → (ℕ → ℕ → Type 0) → (ℕ → ℕ → Type 0) → ℕ → ℕ
    → Type 0
JoinedFrom at end W S O a b = W a b ⊎ ((c : ℕ) × (c < end) × S a c × O (c + at) b)

-- each word of the result is that of acc, joined with the row where the word of select has bit k
abbrev pub AreLanesJoined : List ℕ → List ℕ → ℕ → ℕ → List ℕ → Type 0
AreLanesJoined acc select k row result =
    (i : ℕ) → i < 8 → (b : ℕ)
    → RowsHave result i b ↔ (RowsHave acc i b ⊎ (RowsHave select i k × Bit row b))

-- the new words are the lanes from an index on, and else the old ones
pub record AreLanesStored (old : List ℕ) (at : ℕ) (lanes new : List ℕ) : Type 0 where
  pub inside : (i : ℕ) → i < 8 → slice_index new (at + i) ≡ slice_index lanes i
  pub outside : (a : ℕ) → (a < at) ⊎ (at + 8 ≤ a) → slice_index new a ≡ slice_index old a

-- the bits of sixteen rows: those of `own` are the rows from `at` on, where `at` is 0 or 8, and
-- those of `other` the rest
abbrev pub Sixteen : ℕ → List ℕ → List ℕ → ℕ → ℕ → Type 0
Sixteen at own other a b =
    ((j : ℕ) × (j < 8) × (a ≡ at + j) × RowsHave own j b)
    ⊎ ((j : ℕ) × (j < 8) × (a ≡ 8 - at + j) × RowsHave other j b)
