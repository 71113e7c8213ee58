-- A JSON string of any bytes. Read this first; `put_string` cites `string_text`.
use Rattle.std.specs.Prelude.{ℕ, List, [], ◌∷◌, ◌++◌, Bool, ◌+◌, ◌-◌, ◌/◌, ◌%◌, ◌==◌, ◌||◌, ◌&&◌, nat_le, nat_lt, if◌then◌else◌, codes}
use Rattle.std.specs.List.{flat_map}

-- what ASCII prints
abbrev pub is_ascii_printable : ℕ → Bool
is_ascii_printable b = nat_le 32 b && nat_le b 126

-- a number below 16 as a digit: `0` to `9`, then `a` to `f`
abbrev pub hex_digit : ℕ → ℕ
hex_digit n = if nat_lt n 10 then 48 + n else 97 + (n - 10)

-- A quote and a backslash stand behind a backslash. A byte that ASCII does not print is the
-- character of that number.
unfoldable pub string_byte : ℕ → List ℕ
string_byte b =
    if b == 34 || b == 92 then 92 ∷ b ∷ [] else (
    if is_ascii_printable b then b ∷ [] else
    codes "\\u00" ++ hex_digit (b / 16) ∷ hex_digit (b % 16) ∷ [])

-- in quotes
unfoldable pub string_text : List ℕ → List ℕ
string_text bytes = codes "\"" ++ flat_map string_byte bytes ++ codes "\""
