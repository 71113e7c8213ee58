-- Where lines, strings and comments end. `quoted_length` and `comment_length` cite the last
-- definitions of each.
use Rattle.std.specs.Prelude.{ℕ, zero, suc, ◌+◌, ◌-◌, List, [], ◌∷◌, Bool, ◌||◌, ◌&&◌, ◌==◌, Option, Some, None, length, drop, slice_index, if◌then◌else◌}
use Rattle.std.specs.List.{position_or_len}

abbrev pub is_blank : ℕ → Bool
is_blank b = b == 32 || b == 9 || b == 13

abbrev pub is_line_end : ℕ → Bool
is_line_end b = b == 10

abbrev pub is_quote : ℕ → Bool
is_quote b = b == 34

-- The length of a string with both of its quotes: the next quote ends it.
abbrev pub quoted_from : List ℕ → Option ℕ
quoted_from [] = None
quoted_from (b ∷ bs) =
    if position_or_len is_quote bs == length bs then None
    else Some (position_or_len is_quote bs + 2)

-- The length of a comment of which n bytes are read, where depth comments are open; skip bytes are
-- passed over.
unfoldable pub comment_from : ℕ → ℕ → ℕ → List ℕ → Option ℕ
comment_from skip depth n [] = None
comment_from (suc skip) depth n (b ∷ bs) = comment_from skip depth (n + 1) bs
comment_from zero depth n (b ∷ bs) =
    if b == 42 && slice_index bs 0 == 41 then (if depth == 1 then Some (n + 2)
    else comment_from 1 (depth - 1) (n + 1) bs)
    else (
    if b == 40 && slice_index bs 0 == 42 then comment_from 1 (depth + 1) (n + 1) bs
    else comment_from 0 depth (n + 1) bs)

abbrev pub comment_through : Option ℕ → Option ℕ
comment_through None = None
comment_through (Some n) = Some (n + 2)

-- The length of a comment with both of its ends.
abbrev pub comment_of : List ℕ → Option ℕ
comment_of bytes = comment_through (comment_from 0 1 0 (drop 2 bytes))

-- ---- length

-- no text is longer
abbrev pub most_bytes : ℕ
most_bytes = 65536
