-- Values over all candidates and over fewer of them. Read `Columns` of cat_machine
-- first.
-- Read next: ColumnLaws.
use Rattle.std.specs.Prelude.{ℕ, ◌≡◌, ◌<◌, Bool, List, length, Option, Some, slice_get}
use Rattle.std.specs.List.{AllZip}
use denote.Ref.{Bor}
use Rattle.taints.specs.DependencyLists.{dependency_lists}
use Rattle.candidate_spaces.specs.Space.{Candidate}
use Rattle.cat_machine.specs.declared.column.Column.{Column}
use Rattle.cat_machine.specs.declared.column.Column.TheVariants as columns
use Rattle.cat_machine.specs.Executions.{events_of}
use Rattle.cat_machine.specs.Named.{ColumnEvents, ColumnPairs}
use Rattle.whole_outcomes.specs.Values.{AreInputsBelow}

-- both have the same events, dependencies, reads-from and coherence
pub record AreAlike (one two : Candidate) : Type 0 where
  pub events : one.0.events.items ≡ two.0.events.items
  pub dependencies : dependency_lists one.0.dependencies ≡ dependency_lists two.0.dependencies
  pub reads : one.1.0 ≡ two.1.0
  pub coherence : one.1.1 ≡ two.1.1

-- at this index stands one like it
abbrev pub IsLikeAt : List Candidate → ℕ → Candidate → Type 0
IsLikeAt fewer j one = (two : Candidate) × (slice_get fewer j ≡ Some two) × AreAlike one two

-- for each of all candidates the index of one like it among the fewer, or nothing
pub record AreAmong (indexes : List (Option ℕ)) (all fewer : List Candidate) : Type 0 where
  pub long : length indexes ≡ length all
  pub same : (k j : ℕ) (one : Candidate) → slice_get all k ≡ Some one
      → slice_get indexes k ≡ Some (Some j) → IsLikeAt fewer j one

-- the first column has the same value at the one index as the second at the other
abbrev pub HaveSameValue : Column → ℕ → Column → ℕ → Type 0
HaveSameValue (columns.Sets xs) k (columns.Sets ys) j = slice_get xs k ≡ slice_get ys j
HaveSameValue (columns.Sets xs) k (columns.Relations ys) j = ⊥
HaveSameValue (columns.Relations xs) k (columns.Sets ys) j = ⊥
HaveSameValue (columns.Relations xs) k (columns.Relations ys) j = slice_get xs k ≡ slice_get ys j

-- a column over all has the values of one over the fewer
abbrev pub IsColumnKept : List (Option ℕ) → Column → Column → Type 0
IsColumnKept indexes c d =
    (k j : ℕ) → slice_get indexes k ≡ Some (Some j) → HaveSameValue c k d j

abbrev pub AreInputsKept : List (Option ℕ) → List (Bor Column) → List (Bor Column) → Type 0
AreInputsKept indexes inputs others =
    AllZip (λ c d. IsColumnKept indexes c.now d.now) inputs others

pub record AreColumnsKept (indexes : List (Option ℕ)) (cs ds : List Column) : Type 0 where
  pub as_many : length cs ≡ length ds
  pub each : (p : ℕ) (c d : Column) → slice_get cs p ≡ Some c → slice_get ds p ≡ Some d
      → IsColumnKept indexes c d

-- answers over all are those over the fewer
abbrev pub AreAnswersKept : List (Option ℕ) → List Bool → List Bool → Type 0
AreAnswersKept indexes answers less =
    (k j : ℕ) → slice_get indexes k ≡ Some (Some j) → slice_get answers k ≡ slice_get less j

-- at that index the column has only events below n
pub record IsColumnBelow (n : ℕ) (c : Column) (k : ℕ) : Type 0 where
  pub events : (a : ℕ) → ColumnEvents c k n a → a < n
  pub pairs : (a b : ℕ) → ColumnPairs c k n a b → (a < n) × (b < n)

-- the inputs have only events of each candidate
abbrev pub AreBelowAll : List Candidate → List (Bor Column) → Type 0
AreBelowAll all inputs =
    (k : ℕ) (one : Candidate) → slice_get all k ≡ Some one
    → AreInputsBelow (events_of one) inputs k
