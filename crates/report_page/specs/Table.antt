-- The table of tests under models.
use Rattle.std.specs.Prelude.{ℕ, ◌+◌, Bool, true, false, List, [], ◌∷◌, ◌++◌, codes}
use Rattle.std.specs.List.{flat_map}
use Rattle.escaped_texts.specs.Elements.{Attribute, element}
use Rattle.escaped_texts.specs.Escaped.{escaped}
use Rattle.outcome_states.specs.declared.answer.Outcome.{Outcome}
use Rattle.outcome_states.specs.declared.answer.OutcomeResult.{OutcomeResult}
use Rattle.report_details.specs.Reported.{ReportedModel, ReportedTest}
use Rattle.report_details.specs.Groups.{groups_of, has_other, is_other, letter, keys_text}
use Rattle.report_details.specs.Marks.{one, class_of, scope_of, text_if, numbered, heading, result_class, result_mark, test_class}

-- the name of a model over its column
unfoldable pub column_head : ReportedModel → List ℕ
column_head m = element (codes "th") (scope_of (codes "col")) (heading (codes "span") m.name)

abbrev pub column_heads : List ReportedModel → List ℕ
column_heads models = flat_map column_head models

-- a bar stands at a cell that differs from that under the first model
unfoldable pub cell_class : OutcomeResult → ℕ → List ℕ
cell_class found group = result_class found ++ text_if (is_other group) (codes " g")

-- the letter of the group, in a row whose cells differ
unfoldable pub group_mark : (is_apart : Bool) → ℕ → List ℕ
group_mark true group = element (codes "sup") [] (letter group)
group_mark false group = []

unfoldable pub cell_text : (is_apart : Bool) → OutcomeResult → ℕ → List ℕ
cell_text is_apart found group =
    element (codes "td") (class_of (cell_class found group))
    (result_mark found ++ group_mark is_apart group)

-- the cells of a test, each with its group
abbrev pub cells_text : (is_apart : Bool) → List Outcome → (groups : List ℕ) → List ℕ
cells_text is_apart [] groups = []
cells_text is_apart (o ∷ outcomes) [] = []
cells_text is_apart (o ∷ outcomes) (g ∷ groups) =
    cell_text is_apart o.result g ++ cells_text is_apart outcomes groups

-- a link to what is said of a test
unfoldable pub test_link : ℕ → List ℕ → List ℕ
test_link number name =
    element (codes "th") (scope_of (codes "row"))
    (element (codes "a") (one (codes "href") (numbered (codes "#t") number)) (escaped name))

abbrev pub row_attributes : (class name keys : List ℕ) → List Attribute
row_attributes class name keys =
    (codes "class", class) ∷ (codes "data-n", name) ∷ (codes "data-k", keys) ∷ []

-- what the filters and the script look at
abbrev pub test_row_attributes : ReportedTest → (groups : List ℕ) → List Attribute
test_row_attributes t groups =
    row_attributes (test_class t.outcomes (has_other groups)) t.name (keys_text groups)

-- the row of a test, by the groups of its outcomes
unfoldable pub grouped_row : ℕ → ReportedTest → (groups : List ℕ) → List ℕ
grouped_row number t groups =
    element (codes "tr") (test_row_attributes t groups)
    (test_link number t.name ++ cells_text (has_other groups) t.outcomes groups)

abbrev pub test_row : ℕ → ReportedTest → List ℕ
test_row number t = grouped_row number t (groups_of t.outcomes)

-- the rows of tests, of which the first has this number, each on a line
abbrev pub test_rows : ℕ → List ReportedTest → List ℕ
test_rows number [] = []
test_rows number (t ∷ tests) = test_row number t ++ codes "\n" ++ test_rows (number + 1) tests
