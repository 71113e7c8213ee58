-- The paths of a list, which is a text with one path on a line. Read `listed_paths` last.
use Rattle.std.specs.Prelude.{ℕ, ◌+◌, List, [], ◌∷◌, ◌++◌, Bool, true, false, if◌then◌else◌, ◌==◌}
use Rattle.std.specs.List.{list_any, slice_split}
use Rattle.std.specs.Str.{trim}
use Rattle.std.specs.String.{string_bytes}
use Rattle.path_lists.specs.declared.entry.ListEntry.{ListEntry}

-- a path that a list names: its line, from 1, and whether it is that of a list in turn
pub record ListedPath : Type 0 where
  pub line : ℕ
  pub is_list : Bool
  pub path : List ℕ

abbrev pub listed_by : ListEntry → ListedPath
listed_by e = record { line = e.line; is_list = e.is_list; path = string_bytes e.path }

-- the part of a path up to its last slash
abbrev pub folder : List ℕ → List ℕ
folder [] = []
folder (b ∷ bs) = if list_any (λ c. c == 47) (b ∷ bs) then b ∷ folder bs else []

-- a path goes from the folder of the list, unless it begins with a slash
abbrev pub located : List ℕ → List ℕ → List ℕ
located list [] = folder list
located list (b ∷ bs) = if b == 47 then b ∷ bs else folder list ++ b ∷ bs

abbrev pub one_path : ℕ → Bool → List ℕ → List ListedPath
one_path line is_list path = record { line = line; is_list = is_list; path = path } ∷ []

-- what a line names, without the blanks around it: nothing where it is empty or begins with `#`,
-- and a list where it begins with `@`
abbrev pub paths_of_word : List ℕ → ℕ → List ℕ → List ListedPath
paths_of_word list line [] = []
paths_of_word list line (b ∷ bs) =
    if b == 35 then []
    else if b == 64 then one_path line true (located list bs)
    else one_path line false (located list (b ∷ bs))

-- the paths of these lines, the first of which has this number
abbrev pub paths_from : List ℕ → ℕ → List (List ℕ) → List ListedPath
paths_from list line [] = []
paths_from list line (text ∷ texts) =
    paths_of_word list line (trim text) ++ paths_from list (line + 1) texts

-- the paths of the list of this path and this text, in order
abbrev pub listed_paths : List ℕ → List ℕ → List ListedPath
listed_paths list text = paths_from list 1 (slice_split (λ b. b == 10) text)
