-- A board as a list: its cells in their order, and what a table or a difference shows of its tests.
-- Read after Contents.
use Rattle.std.specs.Prelude.{ℕ, List, map, slice_get}
use Rattle.std.specs.List.{flat_map}
use Rattle.outcome_texts.specs.Cells.{Cell, cell_of}
use Rattle.outcome_texts.specs.Columns.{Row}
use Rattle.outcome_texts.specs.Differences.{Pair}
use Rattle.board.specs.declared.listing.NamedCell.{NamedCell}
use Rattle.board.specs.Contents.{RowContent, ColumnContent, BoardContent, column_index, shown_cell}

-- the names of a test and of a model, and what is shown of their cell
pub record ListedCell : Type 0 where
  pub test : List ℕ
  pub model : List ℕ
  pub cell : Cell

abbrev pub listed_cell : NamedCell → ListedCell
listed_cell c = record { test = c.test.now; model = c.model.now; cell = cell_of c.shown }

-- what the row of a test shows under the model of a name
abbrev pub row_cell : List ColumnContent → RowContent → List ℕ → Cell
row_cell columns row model = shown_cell (slice_get row.cells (column_index model columns))

abbrev pub cell_under : List ColumnContent → RowContent → ColumnContent → ListedCell
cell_under columns row column =
    record { test = row.name; model = column.name; cell = row_cell columns row column.name }

-- the cells of a test, in the order of the models
abbrev pub row_listed : List ColumnContent → RowContent → List ListedCell
row_listed columns row = map (cell_under columns row) columns

-- all cells, test by test
abbrev pub all_listed : List ColumnContent → List RowContent → List ListedCell
all_listed columns rows = flat_map (row_listed columns) rows

abbrev pub cells_in_order : BoardContent → List ListedCell
cells_in_order b = all_listed b.columns b.rows

-- the row of a table under the models of these names
abbrev pub row_under : List ColumnContent → List (List ℕ) → RowContent → Row
row_under columns models row =
    record { name = row.name; cells = map (row_cell columns row) models }

abbrev pub rows_under : BoardContent → List (List ℕ) → List Row
rows_under b models = map (row_under b.columns models) b.rows

-- the cells of a test under the models of two names
abbrev pub pair_under : List ColumnContent → (first second : List ℕ) → RowContent → Pair
pair_under columns first second row =
    record {
      name = row.name;
      first = row_cell columns row first;
      second = row_cell columns row second;
    }

abbrev pub pairs_under : BoardContent → (first second : List ℕ) → List Pair
pairs_under b first second = map (pair_under b.columns first second) b.rows
