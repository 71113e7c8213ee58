-- Values by the number of a location, and by its name; sets of values. Read next: Instructions.
use Rattle.std.specs.Prelude.{ℕ, ◌≡◌, ◌<◌, List, [], ◌∷◌, length, slice_index_or}
use Rattle.thread_runs.specs.declared.value.Value as numbered
use Rattle.thread_runs.specs.declared.value.Value.TheVariants as numbers
use Rattle.thread_runs.specs.declared.value.Comparison as numbered_comparison
use Rattle.thread_runs.specs.declared.value.Comparison.TheVariants as how
use Rattle.thread_runs.specs.declared.state.State as numbered_state
use Rattle.meaning.specs.Names.{Name}
use Rattle.meaning.specs.Machine.{Value, Number, Address, NoValue, Comparison, Less, Equal, Greater, Unlike, State}

-- The two are the same value, where the list has the names of the locations in their order.
pub data IsSameValue (names : List Name) : numbered.Value → Value → Type 0 where
  number : (n : ℕ) → IsSameValue names (numbers.Number n) (Number n)
  address : (k : ℕ) → k < length names
      → IsSameValue names (numbers.Address k) (Address (slice_index_or names k []))
  nothing : IsSameValue names numbers.NoValue NoValue

-- The two lists have the same values, one by one.
pub data AreSameValues (names : List Name) : List numbered.Value → List Value → Type 0 where
  none : AreSameValues names [] []
  more : {v : numbered.Value} {w : Value} {vs : List numbered.Value} {ws : List Value}
      → IsSameValue names v w → AreSameValues names vs ws
      → AreSameValues names (v ∷ vs) (w ∷ ws)

-- what a comparison found
abbrev pub comparison_by_name : numbered_comparison.Comparison → Comparison
comparison_by_name how.Less = Less
comparison_by_name how.Equal = Equal
comparison_by_name how.Greater = Greater
comparison_by_name how.Unlike = Unlike

-- The registers hold the same values, and CR0 is the same.
pub record IsSameState (names : List Name) (s : numbered_state.State) (u : State) : Type 0 where
  pub registers : AreSameValues names s.registers u.registers
  pub compared : comparison_by_name s.compared ≡ u.compared

-- Each value of the first set is one of the second, and the other way round.
pub record AreSameSets (names : List Name) (V : numbered.Value → Type 0) (W : Value → Type 0)
    : Type 0 where
  pub by_name : (v : numbered.Value) → V v → (w : Value) × IsSameValue names v w × W w
  pub by_number : (w : Value) → W w → (v : numbered.Value) × IsSameValue names v w × V v

-- A value by numbers is one value by names, and the other way round.
pub record AreOneToOne (names : List Name) : Type 0 where
  pub by_name : (v : numbered.Value) (w x : Value) → IsSameValue names v w → IsSameValue names v x
      → w ≡ x
  pub by_number : (v x : numbered.Value) (w : Value) → IsSameValue names v w
      → IsSameValue names x w → v ≡ x
