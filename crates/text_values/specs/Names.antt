-- Where the bytes of a name are, which no public clause speaks of, and the key of a name, which
-- `Name::key` answers.
use Rattle.std.specs.Prelude.{ℕ, ◌≤◌, ◌≡◌, List, [], ◌∷◌, take, length, min, slice_index}
use Rattle.std.specs.Int.{from_le_bytes, w64}
use Rattle.text_values.specs.declared.name.Bytes.{Bytes}
use Rattle.text_values.specs.declared.name.Bytes.TheVariants.{Short, Long}

abbrev pub name_bytes : Bytes → List ℕ
name_bytes (Short n bytes) = take n bytes
name_bytes (Long v) = v.value.items

-- no more bytes are in place than fit, and zeros behind them
abbrev pub IsSoundName : Bytes → Type 0
IsSoundName (Short n bytes) = (n ≤ 16) × ((i : ℕ) → n ≤ i → slice_index bytes i ≡ 0)
IsSoundName (Long v) = Unit {0}

-- the length, as far as a byte tells it, and the first seven bytes, zeros behind the last one
unfoldable pub key_bytes : List ℕ → List ℕ
key_bytes name =
    min (length name) 255 ∷ slice_index name 0 ∷ slice_index name 1 ∷ slice_index name 2
    ∷ slice_index name 3 ∷ slice_index name 4 ∷ slice_index name 5 ∷ slice_index name 6 ∷ []

-- the same as one number
unfoldable pub key_of : List ℕ → ℕ
key_of name = from_le_bytes w64 (key_bytes name)

-- a byte, and the first seven bytes behind it
abbrev pub key_bytes_behind : ℕ → List ℕ → List ℕ
key_bytes_behind n bytes =
    n ∷ slice_index bytes 0 ∷ slice_index bytes 1 ∷ slice_index bytes 2 ∷ slice_index bytes 3
    ∷ slice_index bytes 4 ∷ slice_index bytes 5 ∷ slice_index bytes 6 ∷ []
