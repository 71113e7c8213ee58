-- Groups of models, by their names.
use Rattle.std.specs.Prelude.{ℕ, ◌+◌, ◌==◌, nat_lt, Bool, true, false, if◌then◌else◌, List, [], ◌∷◌, ◌++◌, length, decimal, codes}
use Rattle.text_values.specs.Joined.{joined}
use Rattle.report_details.specs.Reported.{ReportedModel}

abbrev pub name_if : Bool → ReportedModel → List (List ℕ)
name_if true m = m.name ∷ []
name_if false m = []

-- the names of the models of a group
abbrev pub names_in : List ReportedModel → (groups : List ℕ) → ℕ → List (List ℕ)
names_in [] groups group = []
names_in (m ∷ models) [] group = []
names_in (m ∷ models) (g ∷ groups) group =
    name_if (g == group) m ++ names_in models groups group

-- so many models
unfoldable pub count_of_models : ℕ → List ℕ
count_of_models count = decimal count ++ codes " models"

-- the names, or how many there are
unfoldable pub names_text : (names : List (List ℕ)) → List ℕ
names_text names =
    if nat_lt 6 (length names) then count_of_models (length names) else joined (codes ", ") names

-- which models are of a group
abbrev pub group_text : List ReportedModel → (groups : List ℕ) → ℕ → List ℕ
group_text models groups group = names_text (names_in models groups group)

-- a model, where its group is its own
abbrev pub first_if : (group index : ℕ) → List ℕ
first_if group index = if group == index then index ∷ [] else []

-- the first model of each group, where the first of these groups is that of this model
abbrev pub firsts_from : ℕ → (groups : List ℕ) → List ℕ
firsts_from index [] = []
firsts_from index (g ∷ groups) = first_if g index ++ firsts_from (index + 1) groups
