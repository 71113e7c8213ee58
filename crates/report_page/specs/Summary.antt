-- The head of a page: the numbers of all tests, of each model, and of each two models. Read this
-- first, then Table and Page.
use Rattle.std.specs.Prelude.{ℕ, ◌+◌, ◌-◌, ◌==◌, nat_eq, Bool, false, if◌then◌else◌, Option, Some, None, List, [], ◌∷◌, ◌++◌, length, decimal, codes, slice_get, count_by}
use Rattle.std.specs.Cmp.Lexicographic.{pointwise}
use Rattle.escaped_texts.specs.Elements.{element}
use Rattle.escaped_texts.specs.Escaped.{escaped}
use Rattle.outcome_states.specs.declared.answer.Outcome.{Outcome}
use Rattle.outcome_texts.specs.Cells.{Cell, NoCell, Settled}
use Rattle.outcome_texts.specs.Differences.{cells_differ}
use Rattle.report_details.specs.Reported.{ReportedModel, ReportedTest}
use Rattle.report_details.specs.Groups.{are_told_apart, has_refusal}
use Rattle.report_details.specs.Marks.{one, class_of, scope_of, numbered, heading, result_class}

-- ---- counts

abbrev pub cell_if : Option Outcome → Cell
cell_if None = NoCell
cell_if (Some o) = Settled o

-- a test under the model of this index
abbrev pub cell_under : ReportedTest → ℕ → Cell
cell_under t model = cell_if (slice_get t.outcomes model)

abbrev pub outcome_has_class : (class : List ℕ) → Option Outcome → Bool
outcome_has_class class None = false
outcome_has_class class (Some o) = pointwise nat_eq (result_class o.result) class

-- whether the cell of a test under a model is of a class
abbrev pub has_class : ℕ → (class : List ℕ) → ReportedTest → Bool
has_class model class t = outcome_has_class class (slice_get t.outcomes model)

abbrev pub class_count : List ReportedTest → ℕ → (class : List ℕ) → ℕ
class_count tests model class = count_by (has_class model class) tests

-- whether a test tells two models apart
abbrev pub differs : (first second : ℕ) → ReportedTest → Bool
differs first second t = cells_differ (cell_under t first) (cell_under t second)

abbrev pub difference_count : List ReportedTest → (first second : ℕ) → ℕ
difference_count tests first second = count_by (differs first second) tests

-- how many tests tell two of the models apart
abbrev pub apart_count : List ReportedTest → ℕ
apart_count tests = count_by (λ t. are_told_apart t.outcomes) tests

abbrev pub refused_count : List ReportedTest → ℕ
refused_count tests = count_by (λ t. has_refusal t.outcomes) tests

-- ---- the numbers of all tests

unfoldable pub card : ℕ → List ℕ → List ℕ
card number words =
    element (codes "div") (class_of (codes "card"))
    (heading (codes "b") (decimal number) ++ escaped words)

unfoldable pub agreeing_card : (all apart : ℕ) → List ℕ
agreeing_card all apart = card (all - apart) (codes "agree everywhere")

unfoldable pub cards_text : (all apart refused : ℕ) → List ℕ
cards_text all apart refused =
    card all (codes "tests") ++ card apart (codes "tell models apart") ++ agreeing_card all apart
    ++ card refused (codes "with a refusal")

abbrev pub cards : List ReportedTest → List ℕ
cards tests = cards_text (length tests) (apart_count tests) (refused_count tests)

-- ---- the numbers of each model

-- a link to the text of a model
unfoldable pub model_anchor : ℕ → ReportedModel → List ℕ
model_anchor number m =
    element (codes "a") (one (codes "href") (numbered (codes "#m") number)) (escaped m.name)

-- links to the texts of the models, of which the first has this number
abbrev pub model_anchors : ℕ → List ReportedModel → List ℕ
model_anchors number [] = []
model_anchors number (m ∷ models) =
    codes " " ++ model_anchor number m ++ model_anchors (number + 1) models

unfoldable pub model_link : ℕ → ReportedModel → List ℕ
model_link number m = element (codes "th") (scope_of (codes "row")) (model_anchor number m)

unfoldable pub number_cell : (class : List ℕ) → ℕ → List ℕ
number_cell class number = element (codes "td") (class_of class) (escaped (decimal number))

abbrev pub class_cell : List ReportedTest → ℕ → (class : List ℕ) → List ℕ
class_cell tests model class = number_cell class (class_count tests model class)

-- how many tests a model says Never, Sometimes and Always of, and how many it refuses
unfoldable pub class_cells : List ReportedTest → ℕ → List ℕ
class_cells tests model =
    class_cell tests model (codes "N") ++ class_cell tests model (codes "S")
    ++ class_cell tests model (codes "A") ++ class_cell tests model (codes "X")

unfoldable pub model_line : List ReportedTest → ℕ → ReportedModel → List ℕ
model_line tests number m =
    element (codes "tr") [] (model_link number m ++ class_cells tests number)

abbrev pub model_lines : List ReportedTest → ℕ → List ReportedModel → List ℕ
model_lines tests number [] = []
model_lines tests number (m ∷ models) =
    model_line tests number m ++ model_lines tests (number + 1) models

-- ---- the numbers of each two models

-- how many tests tell two models apart; a dash for a model and itself
unfoldable pub difference_cell : List ReportedTest → (first second : ℕ) → List ℕ
difference_cell tests first second =
    if first == second then codes "<td>&#8211;</td>"
    else number_cell [] (difference_count tests first second)

-- against the models from this number on
abbrev pub difference_cells : List ReportedTest → (first second : ℕ) → List ReportedModel → List ℕ
difference_cells tests first second [] = []
difference_cells tests first second (m ∷ models) =
    difference_cell tests first second ++ difference_cells tests first (second + 1) models

unfoldable pub difference_row : List ReportedTest → (all : List ReportedModel) → ℕ
    → ReportedModel → List ℕ
difference_row tests all number m =
    element (codes "tr") [] (model_link number m ++ difference_cells tests number 0 all)

abbrev pub difference_rows : List ReportedTest → (all : List ReportedModel) → ℕ
    → List ReportedModel → List ℕ
difference_rows tests all number [] = []
difference_rows tests all number (m ∷ models) =
    difference_row tests all number m ++ difference_rows tests all (number + 1) models
