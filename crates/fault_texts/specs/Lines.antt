-- What is told of a refused text. `put_fault_lines` cites `fault_lines`.
use Rattle.std.specs.Prelude.{ℕ, ◌+◌, ◌-◌, ◌==◌, ◌||◌, ◌&&◌, Bool, not, min, max, nat_le, nat_lt, List, ◌∷◌, ◌++◌, length, map, take, drop, slice_index, codes, decimal, if◌then◌else◌}
use Rattle.std.specs.List.{position_or_len}
use Rattle.text_values.specs.Layout.{is_line_end}
use Rattle.text_values.specs.Letters.{is_letter, is_digit}
use Rattle.fault_texts.specs.Positions.{count_behind, line_number, column_number, position_label}

-- ---- what is shown of a line

-- a byte that is neither printable ASCII nor a tab is shown as a question mark
abbrev pub shown_byte : ℕ → ℕ
shown_byte b = if b == 9 || (nat_le 32 b && nat_lt b 127) then b else 63

-- below a tab stands a tab, below another byte a blank
abbrev pub blank_below : ℕ → ℕ
blank_below b = if b == 9 then 9 else 32

-- the line before the end of these bytes, at most its last 100
abbrev pub line_before : List ℕ → List ℕ
line_before prefix = drop (length prefix - min (count_behind 10 prefix) 100) prefix

-- the line from the start of these bytes on, at most its first 100
abbrev pub line_behind : List ℕ → List ℕ
line_behind rest = take (min (position_or_len is_line_end rest) 100) rest

-- the line of an offset, and a mark below its byte
unfoldable pub picture : List ℕ → List ℕ → List ℕ
picture prefix rest =
    map shown_byte (line_before prefix) ++ map shown_byte (line_behind rest) ++ codes "\n"
    ++ map blank_below (line_before prefix) ++ codes "^\n"

-- ---- what stands there

abbrev pub is_word_byte : ℕ → Bool
is_word_byte b = is_letter b || is_digit b || b == 95

abbrev pub ends_word : ℕ → Bool
ends_word b = not (is_word_byte b)

-- the letters, digits and `_` at the start, at most 100, or one byte
abbrev pub found_length : List ℕ → ℕ
found_length rest = max (min (position_or_len ends_word rest) 100) 1

abbrev pub quoted : List ℕ → List ℕ
quoted word = codes "`" ++ map shown_byte word ++ codes "`"

abbrev pub found_text : List ℕ → List ℕ
found_text rest =
    if length rest == 0 then codes "the end of the text"
    else (if slice_index rest 0 == 10 then codes "the end of the line"
    else quoted (take (found_length rest) rest))

-- ---- all of it

-- the rule, and its words
abbrev pub rule_said : ℕ → ℕ → List ℕ → List ℕ
rule_said letter number words = letter ∷ decimal number ++ codes " " ++ words

unfoldable pub what_is_found : List ℕ → ℕ → List ℕ
what_is_found rest offset =
    codes ", found " ++ found_text rest ++ codes " at byte " ++ decimal offset ++ codes "\n"

-- a path, the position, the rule with its words, what is found, and the line
unfoldable pub fault_lines : List ℕ → List ℕ → ℕ → ℕ → List ℕ → ℕ → List ℕ
fault_lines path text letter number words offset =
    position_label path (line_number text offset) (column_number text offset)
    ++ rule_said letter number words
    ++ what_is_found (drop offset text) offset ++ picture (take offset text) (drop offset text)
