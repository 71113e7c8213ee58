-- A table: lines of fields, laid out in columns.
use Rattle.std.specs.Prelude.{ℕ, suc, ◌-◌, ◌==◌, max, List, [], ◌∷◌, ◌++◌, Bool, true, false, length, map, replicate, slice_index_or, codes}
use Rattle.std.specs.List.{flat_map}
use Rattle.outcome_texts.specs.declared.table.TestRow.{TestRow}
use Rattle.outcome_texts.specs.Cells.{Cell, cell_of, cell_field}
use Rattle.outcome_texts.specs.Log.{line_end}

-- the length of a field of a line, 0 where the line has no such field
abbrev pub field_width : List (List ℕ) → ℕ → ℕ
field_width line column = length (slice_index_or line column [])

-- the greatest length of a field of this column
abbrev pub column_width : List (List (List ℕ)) → ℕ → ℕ
column_width [] column = 0
column_width (line ∷ lines) column = max (field_width line column) (column_width lines column)

-- a field, filled with spaces to a width
abbrev pub filled : ℕ → List ℕ → List ℕ
filled width field = field ++ replicate (width - length field) 32

-- a field as it is printed: the last of a line as it is, any other one filled to its column's width
-- and parted from the next
abbrev pub padded_field : Bool → ℕ → List ℕ → List ℕ
padded_field true width field = field
padded_field false width field = filled width field ++ codes " | "

-- the fields of a line from a column on
abbrev pub line_from : (ℕ → ℕ) → ℕ → List (List ℕ) → List ℕ
line_from width column [] = line_end
line_from width column (field ∷ fields) =
    padded_field (length fields == 0) (width column) field ++ line_from width (suc column) fields

abbrev pub columns_text : List (List (List ℕ)) → List ℕ
columns_text lines = flat_map (line_from (column_width lines) 0) lines

-- a test's name and its cells, in the order of the models
pub record Row : Type 0 where
  pub name : List ℕ
  pub cells : List Cell

abbrev pub row_of : TestRow → Row
row_of row = record { name = row.name.now; cells = map cell_of row.cells.items }

abbrev pub head_fields : List (List ℕ) → List (List ℕ)
head_fields models = codes "Test" ∷ models

abbrev pub row_fields : Row → List (List ℕ)
row_fields row = row.name ∷ map cell_field row.cells

-- the table of these rows under the models of these names
abbrev pub table_of : List (List ℕ) → List Row → List ℕ
table_of models rows = columns_text (head_fields models ∷ map row_fields rows)
