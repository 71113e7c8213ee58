-- Sets of pairs of a location and a value, each of which has one bit.
use Rattle.std.specs.Prelude.{ℕ, ◌≡◌, ◌<◌, ◌+◌, ◌*◌, ◌/◌, ◌%◌, ◌⊎◌, ◌&&◌, if◌then◌else◌, nat_lt, Bool, true, false, List, [], ◌∷◌, Option, Some, None}
use Rattle.std.specs.List.{position_or_len}
use Rattle.bit_rows.specs.Rows.{RowsHave}
use Rattle.thread_runs.specs.declared.value.Value.{Value}
use Rattle.store_orders.specs.Events.{HasLoad, HasStore}
use Rattle.run_combinations.specs.ReadChoices.{same_value}
use Rattle.store_orders.specs.declared.combination.Event.{Event}
use Rattle.run_combinations.specs.declared.keys.KeySet.{KeySet}
use Rattle.run_combinations.specs.declared.layout.Layout.{Layout}
use Rattle.run_combinations.specs.declared.layout.ThreadParts.{ThreadParts}
use Rattle.run_combinations.specs.declared.part.Part.{Part}
use Rattle.run_combinations.specs.declared.search.Prefix.{Prefix}

-- the set has the bit of a word
abbrev pub HasKey : KeySet → ℕ → ℕ → Type 0
HasKey s word bit = RowsHave s.words word bit

-- the words before the end have the bit
abbrev pub InFirst : ℕ → List ℕ → ℕ → ℕ → Type 0
InFirst end rows word bit = (word < end) × RowsHave rows word bit

-- the number of the pair of a location and a value, by the index of the value among these; none
-- past 128 locations and 16 values
abbrev pub number_at : ℕ → ℕ → Option ℕ
number_at location index =
    if nat_lt location 128 && nat_lt index 16 then Some (location * 16 + index) else None

abbrev pub key_in : List Value → ℕ → Value → Option ℕ
key_in values location value = number_at location (position_or_len (λ v. same_value v value) values)

-- the bit that the pair has in a set, as a word and the index in it
abbrev pub bit_at : Option ℕ → Option (ℕ × ℕ)
bit_at None = None
bit_at (Some key) = Some (key / 64, key % 64)

abbrev pub bit_of : List Value → ℕ → Value → Option (ℕ × ℕ)
bit_of values location value = bit_at (key_in values location value)

-- whether the second set has all of the first: if not, one is missing
abbrev pub TellsAll : Bool → (ℕ → Type 0) → (ℕ → Type 0) → Type 0
TellsAll true S T = (b : ℕ) → S b → T b
TellsAll false S T = (b : ℕ) × S b × (T b → ⊥)

abbrev pub TellsSubset : Bool → (ℕ → ℕ → Type 0) → (ℕ → ℕ → Type 0) → Type 0
TellsSubset true R S = (a b : ℕ) → R a b → S a b
TellsSubset false R S = (a b : ℕ) × R a b × (S a b → ⊥)

-- all pairs of the one set are in the other
abbrev pub AreKeysIn : KeySet → KeySet → Type 0
AreKeysIn s t = (a b : ℕ) → HasKey s a b → HasKey t a b

-- the set has all that some run of the threads stores
abbrev pub HasStores : KeySet → List ThreadParts → Type 0
HasStores s [] = Unit {0}
HasStores s (t ∷ ts) = AreKeysIn t.stores s × HasStores s ts

-- each pair of the first set is one that a load reads, and the second has each that a store stores,
-- where `key` says which bit a location and a value have, if any
pub record AreKeys (key : ℕ → Value → Option (ℕ × ℕ)) (es : List Event)
    (load_keys store_keys : KeySet) : Type 0 where
  pub loads : (a b : ℕ) → HasKey load_keys a b
      → (location : ℕ) × (value : Value) × (key location value ≡ Some (a, b))
      × HasLoad location value es
  pub stores : (location : ℕ) (value : Value) (a b : ℕ) → HasStore location value es
      → key location value ≡ Some (a, b) → HasKey store_keys a b

-- so are the sets of each run of a thread, of which this one has all that they store
abbrev pub PartsAreKeyed : (ℕ → Value → Option (ℕ × ℕ)) → KeySet → List Part → Type 0
PartsAreKeyed key all [] = Unit {0}
PartsAreKeyed key all (p ∷ ps) =
    AreKeys key p.events.items p.loads p.stores × AreKeysIn p.stores all × PartsAreKeyed key all ps

abbrev pub ThreadsAreKeyed : (ℕ → Value → Option (ℕ × ℕ)) → List ThreadParts → Type 0
ThreadsAreKeyed key [] = Unit {0}
ThreadsAreKeyed key (t ∷ ts) = PartsAreKeyed key t.stores t.parts.items × ThreadsAreKeyed key ts

-- the sets of a layout
pub record IsKeyed (key : ℕ → Value → Option (ℕ × ℕ)) (l : Layout) : Type 0 where
  pub initial : (location : ℕ) (value : Value) (a b : ℕ) → HasStore location value l.initial.items
      → key location value ≡ Some (a, b) → HasKey l.initial_store_keys a b
  pub threads : ThreadsAreKeyed key l.threads.items

-- a load of the prefix or of the run reads it
abbrev pub IsLoadedKey : Prefix → Part → ℕ → ℕ → Type 0
IsLoadedKey f p a b = HasKey f.loads a b ⊎ HasKey p.loads a b

-- the prefix, the run or a later thread stores it
abbrev pub IsStoredKey : Prefix → Part → KeySet → ℕ → ℕ → Type 0
IsStoredKey f p after a b = (HasKey after a b ⊎ HasKey f.stores a b) ⊎ HasKey p.stores a b
