-- What contracts see of a `Rel` and of an `EventSet`.
use Rattle.std.specs.Prelude.{ℕ, ◌≡◌, ◌<◌, ◌≤◌, ◌+◌, ◌-◌, ◌*◌, ◌/◌, ◌%◌, ◌^◌, ◌↔◌, List, [], ◌∷◌, length, slice_index}
use Rattle.std.specs.Int.{bit_at}

-- how many events there may be
abbrev pub max_events : ℕ
max_events = 128

-- the number has this bit
unfoldable pub Bit : ℕ → ℕ → Type 0
Bit word k = bit_at word k ≡ 1

-- a number of events, and for each of them one number, whose bits are the events it leads to
pub record Relation : Type 0 where
  pub count : ℕ
  pub rows : List ℕ

-- the pair is in the relation
abbrev pub Has : Relation → ℕ → ℕ → Type 0
Has r a b = Bit (slice_index r.rows a) b

-- the form that each value of a `Rel` has
pub record IsRegular (r : Relation) : Type 0 where
  pub few : r.count ≤ max_events
  pub height : length r.rows ≡ max_events
  pub within : (a b : ℕ) → Has r a b → (a < r.count) × (b < r.count)

-- the relation on n events that has these pairs
pub record IsRelation (r : Relation) (n : ℕ) (R : ℕ → ℕ → Type 0) : Type 0 where
  pub count : r.count ≡ n
  pub regular : IsRegular r
  pub pairs : (a b : ℕ) → Has r a b ↔ R a b

-- a number of events, and a number whose bits are the members
pub record Events : Type 0 where
  pub count : ℕ
  pub word : ℕ

abbrev pub IsMember : Events → ℕ → Type 0
IsMember s a = Bit s.word a

pub record IsEvents (s : Events) (n : ℕ) (S : ℕ → Type 0) : Type 0 where
  pub count : s.count ≡ n
  pub within : (a : ℕ) → IsMember s a → a < n
  pub members : (a : ℕ) → IsMember s a ↔ S a

-- each pair of the one is a pair of the other
abbrev pub IsSubset : Relation → Relation → Type 0
IsSubset r s = (a b : ℕ) → Has r a b → Has s a b

-- how much room a list of rows has left to grow: it falls where a row gains a bit
abbrev pub room_in : List ℕ → ℕ
room_in [] = 0
room_in (w ∷ ws) = (2 ^ 128 - w) + room_in ws

abbrev pub room_of : Relation → ℕ
room_of r = room_in r.rows

abbrev pub no_slot : Relation
no_slot = record { count = 0; rows = [] }

-- two words as one number of 128 bits
abbrev pub wide_word : ℕ → ℕ → ℕ
wide_word low high = high * 2 ^ 64 + low

-- low words and high words as numbers of 128 bits
abbrev pub wide : List ℕ → List ℕ → List ℕ
wide [] hs = []
wide (l ∷ ls) [] = []
wide (l ∷ ls) (h ∷ hs) = wide_word l h ∷ wide ls hs

abbrev pub low_words : List ℕ → List ℕ
low_words [] = []
low_words (w ∷ ws) = (w % 2 ^ 64) ∷ low_words ws

abbrev pub high_words : List ℕ → List ℕ
high_words [] = []
high_words (w ∷ ws) = (w / 2 ^ 64) ∷ high_words ws

-- the two columns of words that a `Rel` is made of: the rows lose neither, and all pairs are below
-- the count
pub record AreRelColumns (count : ℕ) (low high : List ℕ) : Type 0 where
  pub few : count ≤ max_events
  pub low_height : length low ≡ max_events
  pub high_height : length high ≡ max_events
  pub low_kept : low_words (wide low high) ≡ low
  pub high_kept : high_words (wide low high) ≡ high
  pub within : (a b : ℕ) → Bit (slice_index (wide low high) a) b → (a < count) × (b < count)

-- the two words that an `EventSet` is made of: neither is lost in the word, and all events are
-- below the count
pub record AreEventSetWords (count low high : ℕ) : Type 0 where
  pub few : count ≤ max_events
  pub low_fits : low < 2 ^ 64
  pub within : (a : ℕ) → Bit (wide_word low high) a → a < count
