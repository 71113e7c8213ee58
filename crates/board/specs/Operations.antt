-- What each operation makes of a board.
use Rattle.std.specs.Prelude.{ℕ, suc, ◌^◌, ◌-◌, min, List, [], ◌∷◌, ◌++◌, length, map, Option, Some, None, nat_lt, if◌then◌else◌, remove, fold}
use Rattle.std.specs.Arc.{arc_value}
use Rattle.outcome_states.specs.declared.answer.Outcome.{Outcome}
use Rattle.bench_texts.specs.BenchTexts.{changed_at}
use Rattle.board.specs.declared.operation.BoardOp.{BoardOp}
use Rattle.board.specs.declared.operation.BoardOp.TheVariants.{Edit, Settle}
use Rattle.board.specs.declared.operation.CellIndex.{CellIndex}
use Rattle.board.specs.declared.operation.NameChange.{NameChange}
use Rattle.board.specs.declared.operation.NameChange.TheVariants.{PutTest, DropTest, PutModel, DropModel}
use Rattle.board.specs.Contents.{RowContent, ColumnContent, BoardContent}

-- ---- rows

-- the row with that in one of its cells
abbrev pub with_cell : ℕ → Option Outcome → RowContent → RowContent
with_cell model cell row =
    record { name = row.name; cells = changed_at model (λ _. cell) row.cells }

-- the rows with that in one cell
abbrev pub put_cell : (test model : ℕ) → Option Outcome → List RowContent → List RowContent
put_cell test model cell rows = changed_at test (with_cell model cell) rows

abbrev pub open_cell : List RowContent → CellIndex → List RowContent
open_cell rows at = put_cell at.test at.model None rows

-- a test without outcomes
abbrev pub open_row : List ℕ → List ColumnContent → RowContent
open_row name columns = record { name = name; cells = map (λ c. None) columns }

-- the row with one cell more, which is open
abbrev pub wider_row : RowContent → RowContent
wider_row row = record { name = row.name; cells = row.cells ++ None ∷ [] }

-- the row without a cell
abbrev pub narrower_row : ℕ → RowContent → RowContent
narrower_row model row = record { name = row.name; cells = remove row.cells model }

-- ---- names

abbrev pub renamed_row : List ℕ → RowContent → RowContent
renamed_row name row = record { name = name; cells = row.cells }

-- What is put has the index of the name, or is the last; a name that is dropped goes, with its
-- cells.
abbrev pub rows_after : NameChange → List ColumnContent → List RowContent → List RowContent
rows_after (PutTest at name) columns rows =
    if nat_lt at (length rows) then changed_at at (renamed_row (arc_value name)) rows
    else rows ++ open_row (arc_value name) columns ∷ []
rows_after (DropTest at) columns rows = remove rows at
rows_after (PutModel at name items) columns rows =
    if nat_lt at (length columns) then rows else map wider_row rows
rows_after (DropModel at) columns rows = map (narrower_row at) rows

-- likewise, with the printed items of a model
abbrev pub columns_after : NameChange → List ColumnContent → List ColumnContent
columns_after (PutTest at name) columns = columns
columns_after (DropTest at) columns = columns
columns_after (PutModel at name items) columns =
    let column : ColumnContent = record { name = arc_value name; items = (arc_value items).items } in
    if nat_lt at (length columns) then changed_at at (λ _. column) columns
    else columns ++ column ∷ []
columns_after (DropModel at) columns = remove columns at

abbrev pub with_name_change : NameChange → BoardContent → BoardContent
with_name_change change b =
    record {
      rows = rows_after change b.columns b.rows;
      columns = columns_after change b.columns;
      edits = b.edits;
    }

-- ---- operations

-- the cells of that list, opened
abbrev pub with_open_cells : List CellIndex → BoardContent → BoardContent
with_open_cells cells b =
    record { rows = fold open_cell b.rows cells; columns = b.columns; edits = b.edits }

-- one edit more, as far as a number of 64 bits counts
abbrev pub with_edit_counted : BoardContent → BoardContent
with_edit_counted b =
    record { rows = b.rows; columns = b.columns; edits = min (suc b.edits) (2 ^ 64 - 1) }

abbrev pub with_settled_cell : CellIndex → Outcome → BoardContent → BoardContent
with_settled_cell at outcome b =
    record {
      rows = put_cell at.test at.model (Some outcome) b.rows;
      columns = b.columns;
      edits = b.edits;
    }

-- An edit changes the names, opens the cells that it reaches and is counted; a settled cell shows
-- its outcome.
abbrev pub after_operation : BoardContent → BoardOp → BoardContent
after_operation b (Edit edit) =
    with_edit_counted (with_open_cells edit.reached.items (with_name_change edit.change b))
after_operation b (Settle at outcome) = with_settled_cell at (arc_value outcome) b

-- a board that shows nothing
abbrev pub no_board : BoardContent
no_board = record { rows = []; columns = []; edits = 0 }

-- the board after these operations
abbrev pub board_after : List BoardOp → BoardContent
board_after ops = fold after_operation no_board ops
