-- What a board shows: for each test and each model what is known of the cell. Read this file first,
-- then Operations, then Legal, then Right.
use Rattle.std.specs.Prelude.{ℕ, List, [], Option, Some, None, bytes_eq, slice_get, option_map}
use Rattle.std.specs.List.{position_or_len}
use Rattle.outcome_states.specs.declared.answer.Outcome.{Outcome}
use Rattle.outcome_texts.specs.Cells.{Cell, NoCell, Open, Settled}

-- a test: its name, and its cells, one for each model: open, or settled with an outcome
pub record RowContent : Type 0 where
  pub name : List ℕ
  pub cells : List (Option Outcome)

-- a model: its name, and its items as the bench prints them
pub record ColumnContent : Type 0 where
  pub name : List ℕ
  pub items : List ℕ

-- the tests and the models in their orders, and how many edits were made
pub record BoardContent : Type 0 where
  pub rows : List RowContent
  pub columns : List ColumnContent
  pub edits : ℕ

-- ---- what is read of a board

abbrev pub row_index : List ℕ → List RowContent → ℕ
row_index name rows = position_or_len (λ r. bytes_eq r.name name) rows

abbrev pub column_index : List ℕ → List ColumnContent → ℕ
column_index name columns = position_or_len (λ c. bytes_eq c.name name) columns

abbrev pub shown_cell : Option (Option Outcome) → Cell
shown_cell None = NoCell
shown_cell (Some None) = Open
shown_cell (Some (Some outcome)) = Settled outcome

-- the cells of a row, and none where there is no such row
abbrev pub cells_of : Option RowContent → List (Option Outcome)
cells_of None = []
cells_of (Some row) = row.cells

-- the cell of a test and a model, by their indexes
abbrev pub cell_at : List RowContent → (test model : ℕ) → Option (Option Outcome)
cell_at rows test model = slice_get (cells_of (slice_get rows test)) model

-- the cell of a test and a model, by their names
abbrev pub cell_named : BoardContent → (test model : List ℕ) → Cell
cell_named b test model =
    shown_cell (cell_at b.rows (row_index test b.rows) (column_index model b.columns))

-- the printed items of the model of that name
abbrev pub shown_items : BoardContent → List ℕ → Option (List ℕ)
shown_items b model = option_map (λ c. c.items) (slice_get b.columns (column_index model b.columns))
