-- Read this first: the cells of a board, as the desk counts them: test by test, in the order of the
-- models.
use Rattle.std.specs.Prelude.{◌≡◌, ℕ, ◌*◌, ◌+◌, ◌<◌, ◌≤◌, ◌^◌, List, [], ◌∷◌, ◌++◌, Option, Some, None, length}
use Rattle.std.specs.Prelude.{nat_lt, if◌then◌else◌, slice_get}
use Rattle.outcome_states.specs.declared.answer.Outcome.{Outcome}
use Rattle.desk_ledger.specs.Boards.{BoardCell}
use Rattle.board.specs.declared.operation.CellIndex.{CellIndex}
use Rattle.board.specs.Contents.{RowContent, ColumnContent, BoardContent, cell_at}

-- ---- the cells

abbrev pub cell_with : List ℕ → List ℕ → Option Outcome → BoardCell Outcome
cell_with test model outcome = record { test = test; model = model; outcome = outcome }

-- the cells of a test, one for each model: open where the row of the test is too short
abbrev pub row_cells : List ℕ → List ColumnContent → List (Option Outcome)
    → List (BoardCell Outcome)
row_cells test [] outcomes = []
row_cells test (c ∷ cs) [] = cell_with test c.name None ∷ row_cells test cs []
row_cells test (c ∷ cs) (o ∷ os) = cell_with test c.name o ∷ row_cells test cs os

abbrev pub all_cells : List ColumnContent → List RowContent → List (BoardCell Outcome)
all_cells columns [] = []
all_cells columns (r ∷ rs) = row_cells r.name columns r.cells ++ all_cells columns rs

-- a number of 64 bits counts the cells
abbrev pub IsCountable : BoardContent → Type 0
IsCountable b = length b.rows * length b.columns < 2 ^ 64

-- all cells, and none of a board that is not countable
abbrev pub board_cells : BoardContent → List (BoardCell Outcome)
board_cells b =
    if nat_lt (length b.rows * length b.columns) (2 ^ 64) then all_cells b.columns b.rows else []

-- ---- their indexes

-- there is a cell at these indexes
abbrev pub HasCell : BoardContent → CellIndex → Type 0
HasCell b at = (x : Option Outcome) × (cell_at b.rows at.test at.model ≡ Some x)

-- they are those of the cell that the desk counts so
abbrev pub IsCellIndexOf : BoardContent → ℕ → CellIndex → Type 0
IsCellIndexOf b index at =
    (index ≡ at.test * length b.columns + at.model) × (at.model < length b.columns)

-- they are those of the cell that the desk counts so, and it is there
pub record IsCellAt (b : BoardContent) (index : ℕ) (at : CellIndex) : Type 0 where
  pub is_index : IsCellIndexOf b index at
  pub there : HasCell b at
  pub countable : IsCountable b

-- the indexes are no more than these cells, and so many of the row's cells, from that of one model
-- on, are among them
pub record IsRowRange (count models row from wanted first end : ℕ) : Type 0 where
  pub within : end ≤ count
  pub all : (j : ℕ) → from ≤ j → j < from + wanted → row * models + j < count
      → (first ≤ row * models + j) × (row * models + j < end)

-- ---- their names

-- these indexes are those of a test and of a model of these names
pub record IsNamedAt (b : BoardContent) (at : CellIndex) (test model : List ℕ) : Type 0 where
  pub row : RowContent
  pub column : ColumnContent
  pub row_there : slice_get b.rows at.test ≡ Some row
  pub column_there : slice_get b.columns at.model ≡ Some column
  pub row_named : row.name ≡ test
  pub column_named : column.name ≡ model

-- there is no test or no model at these indexes
abbrev pub HasNoNames : BoardContent → CellIndex → Type 0
HasNoNames b at =
    (row : RowContent) (column : ColumnContent) → slice_get b.rows at.test ≡ Some row
    → slice_get b.columns at.model ≡ Some column → ⊥
