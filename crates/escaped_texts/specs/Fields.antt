-- Lines of fields with a tab between two of them: how a field is written, and a reader of such
-- lines. `put_field` cites `field_text`.
use Rattle.std.specs.Prelude.{ℕ, List, [], ◌∷◌, ◌++◌, Bool, ◌==◌, ◌||◌, not, fold, map, if◌then◌else◌, codes}
use Rattle.std.specs.List.{flat_map, join_with_byte}

-- a backslash, a tab, a line feed and a carriage return are two bytes each
unfoldable pub field_byte : ℕ → List ℕ
field_byte b =
    if b == 92 then codes "\\\\" else (
    if b == 9 then codes "\\t" else (
    if b == 10 then codes "\\n" else (
    if b == 13 then codes "\\r" else b ∷ [])))

abbrev pub field_text : List ℕ → List ℕ
field_text bytes = flat_map field_byte bytes

-- a line of these fields
unfoldable pub line_text : List (List ℕ) → List ℕ
line_text fields = join_with_byte 9 (map field_text fields) ++ 10 ∷ []

-- neither a tab nor an end of a line
abbrev pub is_inside_field : ℕ → Bool
is_inside_field b = not (b == 9 || b == 10 || b == 13)

-- ---- reading

-- where the reader stands, with the lines so far, the fields of this line, and the bytes of this
-- field
pub data FieldReader : Type 0 where
  Inside : (lines : List (List (List ℕ))) (fields : List (List ℕ)) (bytes : List ℕ) → FieldReader
  -- behind a backslash
  Escape : (lines : List (List (List ℕ))) (fields : List (List ℕ)) (bytes : List ℕ) → FieldReader
  Broken : FieldReader

abbrev pub escaped_step : List (List (List ℕ)) → List (List ℕ) → List ℕ → ℕ → FieldReader
escaped_step lines fields bytes b =
    if b == 92 then Inside lines fields (bytes ++ 92 ∷ []) else (
    if b == 116 then Inside lines fields (bytes ++ 9 ∷ []) else (
    if b == 110 then Inside lines fields (bytes ++ 10 ∷ []) else (
    if b == 114 then Inside lines fields (bytes ++ 13 ∷ []) else Broken)))

abbrev pub field_step : FieldReader → ℕ → FieldReader
field_step (Inside lines fields bytes) b =
    if b == 9 then Inside lines (fields ++ bytes ∷ []) [] else (
    if b == 10 then Inside (lines ++ (fields ++ bytes ∷ []) ∷ []) [] [] else (
    if b == 92 then Escape lines fields bytes else Inside lines fields (bytes ++ b ∷ [])))
field_step (Escape lines fields bytes) b = escaped_step lines fields bytes b
field_step Broken b = Broken

abbrev pub fields_behind : FieldReader → List ℕ → FieldReader
fields_behind reader text = fold field_step reader text

-- where the reader stands behind these lines
abbrev pub behind_lines : List (List (List ℕ)) → FieldReader
behind_lines lines = Inside lines [] []
