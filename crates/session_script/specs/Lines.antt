-- The lines of a script. Read this first, then Words, Requests and Commands.
use Rattle.std.specs.Prelude.{◌≡◌, ℕ, List, [], ◌∷◌, false, ◌==◌, ◌&&◌, if◌then◌else◌, slice_index}
use Rattle.text_values.specs.Layout.{is_line_end}

-- the byte at the beginning of the first of these
abbrev pub onto_first : ℕ → List (List ℕ) → List (List ℕ)
onto_first b [] = (b ∷ []) ∷ []
onto_first b (l ∷ ls) = (b ∷ l) ∷ ls

-- the lines, without their line feeds: a carriage return right before a line feed is dropped, and
-- the last line may lack its line feed
abbrev pub lines_of : List ℕ → List (List ℕ)
lines_of [] = []
lines_of (b ∷ bs) =
    if b == 10 then [] ∷ lines_of bs
    else (if b == 13 && slice_index bs 0 == 10 then lines_of bs else onto_first b (lines_of bs))

-- a line without the carriage return that stands right before its line feed
abbrev pub without_return : List ℕ → List ℕ
without_return [] = []
without_return (b ∷ []) = if b == 13 then [] else b ∷ []
without_return (b ∷ c ∷ cs) = b ∷ without_return (c ∷ cs)

-- these bytes hold no line feed
abbrev pub IsUnbroken : List ℕ → Type 0
IsUnbroken [] = Unit {0}
IsUnbroken (b ∷ bs) = (is_line_end b ≡ false) × IsUnbroken bs
