-- The page. `put_page` cites the last definition.
use Rattle.std.specs.Prelude.{ℕ, ◌+◌, ◌-◌, ◌==◌, nat_lt, if◌then◌else◌, List, [], ◌∷◌, ◌++◌, length, decimal, codes}
use Rattle.escaped_texts.specs.Elements.{Attribute, open_tag, element}
use Rattle.escaped_texts.specs.Escaped.{escaped}
use Rattle.report_details.specs.Reported.{ReportedModel, ReportedTest, Extras}
use Rattle.report_details.specs.Marks.{one, class_of, numbered, heading}
use Rattle.report_details.specs.Details.{tests_details}
use Rattle.report_page.specs.declared.constants.TheConstants.{FRONT, STYLE, MORE_STYLE, BODY, BAR, BAR_END, LEGEND, FOOT}
use Rattle.report_page.specs.Summary.{apart_count, refused_count, cards, model_anchors, model_lines, difference_rows}
use Rattle.report_page.specs.Table.{column_heads, test_rows}

-- ---- the head

-- how many tests and models, and links to the models
unfoldable pub extent : (tests models : ℕ) → List ℕ
extent tests models =
    decimal tests ++ codes " tests under " ++ decimal models ++ codes " models:"

unfoldable pub extent_line : List ReportedModel → ℕ → List ℕ
extent_line models tests =
    element (codes "p") (class_of (codes "soft"))
    (escaped (extent tests (length models)) ++ model_anchors 0 models)

unfoldable pub title_part : List ReportedModel → ℕ → List ℕ
title_part models tests =
    element (codes "header") []
    (heading (codes "h1") (codes "Tests under models") ++ extent_line models tests)

-- ---- numbers

abbrev pub cards_part : List ReportedTest → List ℕ
cards_part tests = element (codes "section") (class_of (codes "cards")) (cards tests)

unfoldable pub observation_heads : List ℕ
observation_heads =
    heading (codes "th") (codes "Model") ++ heading (codes "th") (codes "Never")
    ++ heading (codes "th") (codes "Sometimes") ++ heading (codes "th") (codes "Always")
    ++ heading (codes "th") (codes "refused")

-- a table that may be wider than the page: its class, its head and its rows
unfoldable pub wrapped_table : (class : List ℕ) → (head rows : List ℕ) → List ℕ
wrapped_table class head rows =
    element (codes "div") (class_of (codes "wrap"))
    (element (codes "table") (class_of class) (head ++ element (codes "tbody") [] rows))

abbrev pub table_head : List ℕ → List ℕ
table_head heads = element (codes "thead") [] (element (codes "tr") [] heads)

unfoldable pub observations : List ReportedModel → List ReportedTest → List ℕ
observations models tests =
    element (codes "div") []
    (heading (codes "h2") (codes "Observations of each model")
    ++ wrapped_table (codes "num") (table_head observation_heads) (model_lines tests 0 models))

-- the class of a table with a column for each of so many models
unfoldable pub table_class : ℕ → List ℕ
table_class models = if nat_lt 6 models then codes "num many" else codes "num"

-- a column for each model behind the first
abbrev pub head_cells : List ℕ → List ReportedModel → List ℕ
head_cells first models = heading (codes "th") first ++ column_heads models

unfoldable pub heads : List ℕ → List ReportedModel → List ℕ
heads first models = table_head (head_cells first models)

unfoldable pub differences : List ReportedModel → List ReportedTest → List ℕ
differences models tests =
    element (codes "div") []
    (heading (codes "h2") (codes "Tests on which two models differ")
    ++ wrapped_table (table_class (length models)) (heads [] models)
    (difference_rows tests models 0 models))

unfoldable pub summary_part : List ReportedModel → List ReportedTest → List ℕ
summary_part models tests =
    cards_part tests
    ++ element (codes "div") (class_of (codes "two"))
    (observations models tests ++ differences models tests)

-- ---- the table

unfoldable pub filter_words : List ℕ → ℕ → List ℕ
filter_words words number = words ++ codes " " ++ decimal number

unfoldable pub filter_label : (id words : List ℕ) → ℕ → List ℕ
filter_label id words number =
    element (codes "label") (one (codes "for") id) (escaped (filter_words words number))

unfoldable pub agreeing_label : (all apart : ℕ) → List ℕ
agreeing_label all apart = filter_label (codes "w-same") (codes "agree") (all - apart)

unfoldable pub filters_text : (all apart refused : ℕ) → List ℕ
filters_text all apart refused =
    filter_label (codes "w-all") (codes "all") all
    ++ filter_label (codes "w-differ") (codes "tell models apart") apart
    ++ agreeing_label all apart ++ filter_label (codes "w-refused") (codes "with a refusal") refused

abbrev pub filters : List ReportedTest → List ℕ
filters tests = filters_text (length tests) (apart_count tests) (refused_count tests)

unfoldable pub grid_class : ℕ → List ℕ
grid_class models = if nat_lt 6 models then codes "many" else []

abbrev pub grid_attributes : (class : List ℕ) → List Attribute
grid_attributes class = (codes "id", codes "grid") ∷ (codes "class", class) ∷ []

-- the table of tests under models
unfoldable pub grid : List ReportedModel → List ReportedTest → List ℕ
grid models tests =
    element (codes "table") (grid_attributes (grid_class (length models)))
    (heads (codes "Test") models ++ element (codes "tbody") [] (test_rows 0 tests))

-- behind the filters, which the script adds to
unfoldable pub table_part : List ReportedModel → List ReportedTest → List ℕ
table_part models tests =
    BAR.now ++ filters tests ++ BAR_END.now
    ++ element (codes "div") (class_of (codes "wrap big")) (grid models tests)

-- ---- tests

unfoldable pub left_words : ℕ → List ℕ
left_words left_out =
    codes "The drawings of " ++ decimal left_out
    ++ codes " cells are left out: --most asks for more."

unfoldable pub left_part : ℕ → List ℕ
left_part left_out =
    if left_out == 0 then [] else heading (codes "p") (left_words left_out)

unfoldable pub refusals_part : List ℕ → List ℕ
refusals_part refusals =
    if length refusals == 0 then []
    else heading (codes "h2") (codes "Refused texts") ++ heading (codes "pre") refusals

unfoldable pub tests_part : List ReportedModel → List ReportedTest → (left_out : ℕ)
    → (refusals : List ℕ) → List ℕ
tests_part models tests left_out refusals =
    LEGEND.now ++ left_part left_out ++ tests_details models 0 tests ++ refusals_part refusals

-- ---- models

unfoldable pub model_attributes : ℕ → List Attribute
model_attributes number =
    (codes "class", codes "t") ∷ (codes "id", numbered (codes "m") number) ∷ []

unfoldable pub model_text : List ℕ → List ℕ
model_text text =
    element (codes "div") (class_of (codes "body")) (heading (codes "pre") text)

-- the text of the model of this number
unfoldable pub model_details : ℕ → ReportedModel → List ℕ
model_details number m =
    element (codes "details") (model_attributes number)
    (element (codes "summary") [] (heading (codes "b") m.name) ++ model_text m.text)

abbrev pub models_details : ℕ → List ReportedModel → List ℕ
models_details number [] = []
models_details number (m ∷ models) =
    model_details number m ++ models_details (number + 1) models

unfoldable pub models_part : List ReportedModel → List ℕ
models_part models = heading (codes "h2") (codes "Models") ++ models_details 0 models

-- ---- the whole

unfoldable pub content : List ReportedModel → List ReportedTest → Extras → List ℕ
content models tests e =
    summary_part models tests ++ table_part models tests
    ++ tests_part models tests e.left_out e.refusals ++ models_part models

-- what each page begins with, up to its title
unfoldable pub front_part : List ℕ
front_part =
    open_tag (codes "html") (one (codes "lang") (codes "en")) ++ FRONT.now ++ STYLE.now
    ++ MORE_STYLE.now ++ BODY.now

unfoldable pub type_line : List ℕ
type_line = codes "<!DOCTYPE html>\n"

-- the page of these tests under these models
unfoldable pub report_page : List ReportedModel → List ReportedTest → Extras → List ℕ
report_page models tests e =
    type_line ++ front_part ++ title_part models (length tests)
    ++ element (codes "main") [] (content models tests e) ++ FOOT.now
