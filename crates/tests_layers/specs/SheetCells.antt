-- A sheet as texts of cells: the tens of the base are the cell of no name, a row that of its
-- number; no model has a name.
use Rattle.std.specs.Prelude.{◌≡◌, ℕ, ◌+◌, ◌/◌, ◌%◌, ◌^◌, Bool, false, not, ◌==◌, List, [], ◌∷◌, Option, Some, None}
use Rattle.memo_core.specs.declared.keys.Node.{Node}
use Rattle.tests_layers.specs.declared.benches.rows.Row.{Row}
use Rattle.tests_layers.specs.declared.benches.sheet.Sheet.{Sheet}
use Rattle.tests_layers.specs.declared.benches.sheet.Change.{Change}
use Rattle.tests_layers.specs.declared.benches.sheet.Change.TheVariants.{Put, Remove, SetBase}
use Rattle.tests_layers.specs.Rows.{row_of}
use Rattle.tests_layers.specs.Sheet.{tens, cell_of}

abbrev pub cell_at : ℕ → Option (ℕ × ℕ) → Option Node
cell_at t None = None
cell_at t (Some r) = Some (cell_of t)

-- the cell of these names
abbrev pub verdict_at : List Row → List ℕ → List ℕ → Option Node
verdict_at rows [] [] = Some tens
verdict_at rows (t ∷ []) [] = cell_at t (row_of t rows)
verdict_at rows (t ∷ u ∷ ts) [] = None
verdict_at rows test (m ∷ ms) = None

-- the row is there, and this is the sum of its number and the tens
abbrev pub IsSum : ℕ → Option (ℕ × ℕ) → ℕ → Type 0
IsSum addend None o = ⊥
IsSum addend (Some r) o = o ≡ (r.1 + addend) % 2 ^ 64

-- what evaluating a cell from nothing gives
abbrev pub sheet_from_scratch : Sheet → List ℕ → List ℕ → ℕ → Type 0
sheet_from_scratch s [] [] o = o ≡ s.base / 10
sheet_from_scratch s (t ∷ []) [] o = IsSum (s.base / 10) (row_of t s.rows.items) o
sheet_from_scratch s (t ∷ u ∷ ts) [] o = ⊥
sheet_from_scratch s test (m ∷ ms) o = ⊥

abbrev pub is_name : List ℕ → ℕ → Bool
is_name [] name = false
is_name (t ∷ []) name = t == name
is_name (t ∷ u ∷ ts) name = false

-- whether a change reaches the cell: its row, or another base
abbrev pub reaches : Sheet → Change → List ℕ → Bool
reaches s (Put name value) test = is_name test name
reaches s (Remove name) test = is_name test name
reaches s (SetBase value) test = not (value == s.base)
