-- Sets of values as lists in their order.
use Rattle.std.specs.Prelude.{ℕ, ◌≡◌, ◌<◌, ◌≤◌, ◌⊎◌, ◌↔◌, List, length, slice_index_or, Contains}
use Rattle.std.specs.List.{All, AllPairs}
use Rattle.thread_runs.specs.declared.value.Value.{Value}
use Rattle.thread_runs.specs.declared.value.Value.TheVariants.{NoValue}
use Rattle.thread_runs.specs.Runs.{IsLess}

-- it is a number or an address
abbrev pub IsProperValue : Value → Type 0
IsProperValue v = v ≡ NoValue → ⊥

-- values in their order, each once
pub record IsValueSet (values : List Value) : Type 0 where
  pub rising : AllPairs IsLess values
  pub proper : All IsProperValue values

-- the new list has what the old one has, and the value if it is one
abbrev pub IsValueAdded : Value → List Value → List Value → Type 0
IsValueAdded value old new =
    (v : Value) → Contains new v ↔ (Contains old v ⊎ ((v ≡ value) × IsProperValue value))

-- the values before the index are less than the value, and it is less than the one there
pub record IsInsertionIndex (value : Value) (values : List Value) (index : ℕ) : Type 0 where
  pub within : index ≤ length values
  pub before : (k : ℕ) → k < index → IsLess (slice_index_or values k value) value
  pub behind : index < length values → IsLess value (slice_index_or values index value)
