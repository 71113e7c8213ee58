-- Each drawing once, under the names of its models.
use Rattle.std.specs.Prelude.{ℕ, ◌+◌, ◌==◌, nat_eq, if◌then◌else◌, Option, Some, None, List, [], ◌∷◌, ◌++◌, map, length, codes, slice_get}
use Rattle.std.specs.Cmp.Lexicographic.{pointwise}
use Rattle.std.specs.List.{flat_map}
use Rattle.escaped_texts.specs.Elements.{element}
use Rattle.escaped_texts.specs.Escaped.{escaped}
use Rattle.report_details.specs.Reported.{ReportedModel}
use Rattle.report_details.specs.Names.{group_text, firsts_from}

-- the index of the first of these drawings that is this one, where the first of them has this index
abbrev pub first_drawn : ℕ → (drawings : List (List ℕ)) → List ℕ → ℕ
first_drawn index [] drawing = index
first_drawn index (other ∷ drawings) drawing =
    if pointwise nat_eq other drawing then index else first_drawn (index + 1) drawings drawing

-- for each model the first model that has its drawing
abbrev pub drawing_groups : (drawings : List (List ℕ)) → List ℕ
drawing_groups drawings = map (first_drawn 0 drawings) drawings

-- a drawing under the names of its models
unfoldable pub figure : List ℕ → List ℕ → List ℕ
figure group drawing =
    element (codes "figure") [] (element (codes "b") [] (escaped group) ++ drawing)

-- nothing where there is no drawing
unfoldable pub figure_if : List ℕ → List ℕ → List ℕ
figure_if group drawing = if length drawing == 0 then [] else figure group drawing

abbrev pub figure_at : List ℕ → Option (List ℕ) → List ℕ
figure_at group None = []
figure_at group (Some drawing) = figure_if group drawing

abbrev pub figure_of : List ReportedModel → (drawings : List (List ℕ)) → (groups : List ℕ) → ℕ
    → List ℕ
figure_of models drawings groups first =
    figure_at (group_text models groups first) (slice_get drawings first)

abbrev pub figures_in : List ReportedModel → (drawings : List (List ℕ)) → (groups : List ℕ)
    → List ℕ
figures_in models drawings groups =
    flat_map (figure_of models drawings groups) (firsts_from 0 groups)

abbrev pub figures : List ReportedModel → (drawings : List (List ℕ)) → List ℕ
figures models drawings = figures_in models drawings (drawing_groups drawings)
