-- The line and the column of a byte of a text, both from 1, columns in bytes. `put_position` cites
-- `position_label`.
use Rattle.std.specs.Prelude.{ℕ, ◌+◌, ◌==◌, List, ◌++◌, length, take, reverse, codes, decimal}
use Rattle.std.specs.List.{filter, position_or_len}
use Rattle.text_values.specs.Layout.{is_line_end}

-- how many bytes stand behind the last byte of this value: all of them where there is none
abbrev pub count_behind : ℕ → List ℕ → ℕ
count_behind sign bytes = position_or_len (λ b. b == sign) (reverse bytes)

abbrev pub line_number : List ℕ → ℕ → ℕ
line_number text offset = length (filter is_line_end (take offset text)) + 1

abbrev pub column_number : List ℕ → ℕ → ℕ
column_number text offset = count_behind 10 (take offset text) + 1

-- a path, the line and the column
unfoldable pub position_label : List ℕ → ℕ → ℕ → List ℕ
position_label path line column =
    path ++ codes ":" ++ decimal line ++ codes ":" ++ decimal column ++ codes ": "
