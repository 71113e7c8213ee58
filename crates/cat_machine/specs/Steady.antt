-- Candidates in which an item has the values that it had in the one before: nothing that it uses
-- changes.
use Rattle.std.specs.Prelude.{ℕ, ◌≡◌, ◌<◌, ◌≤◌, ◌-◌, List, [], ◌∷◌, ◌++◌, Some, slice_get}
use denote.Ref.{Bor}
use Rattle.bit_rows.specs.Relation.{Relation, Events}
use Rattle.cat_machine.specs.declared.column.Column.{Column}
use Rattle.cat_machine.specs.declared.column.Column.TheVariants as columns
use Rattle.cat_machine.specs.Columns.{HasColumnValue}
use Rattle.cat_machine.specs.Values.{AddsValue, column_len}

-- in both candidates it has the same value, or in neither one
abbrev pub HasSame : Column → ℕ → ℕ → Type 0
HasSame (columns.Sets values) j k = slice_get values j ≡ slice_get values k
HasSame (columns.Relations values) j k = slice_get values j ≡ slice_get values k

-- each input has the same value in both candidates
abbrev pub HaveSameInputs : List (Bor Column) → ℕ → ℕ → Type 0
HaveSameInputs inputs j k =
    (index : ℕ) (column : Bor Column) → slice_get inputs index ≡ Some column
    → HasSame column.now j k

-- the candidates from one up to another have the inputs of the first
abbrev pub AreSteady : List (Bor Column) → ℕ → ℕ → Type 0
AreSteady inputs from until = (k : ℕ) → from ≤ k → k < until → HaveSameInputs inputs from k

-- the candidates from the next up to another have the inputs of the one before them
abbrev pub IsSteady : List (Bor Column) → ℕ → ℕ → Type 0
IsSteady inputs next until = (k : ℕ) → next ≤ k → k < until → HaveSameInputs inputs (next - 1) k

-- the new column has its last value once more
abbrev pub Repeats : Column → Column → Type 0
Repeats old new =
    (s : Events) (r : Relation) → HasColumnValue old (column_len old - 1) s r → AddsValue old new s r

-- the last of them
abbrev pub HasAsLast : {X : Type 0} → List X → X → Type 0
HasAsLast bases base = (before : _) × (bases ≡ before ++ base ∷ [])
