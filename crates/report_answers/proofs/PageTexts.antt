-- A page closes its elements in order, and opens one script.
use Rattle.std.proofs.Common.{◌≡◌, ℕ, ◌+◌, ◌-◌, List, [], ◌∷◌, ◌++◌, Bool, true, false, length, refl, ap, ◌∙◌, append_assoc}
use Rattle.std.specs.Prelude.{◌==◌, All, codes, decimal}
use Rattle.std.proofs.lemmas.Bool.{cond_both}
use Rattle.std.proofs.lemmas.List.Sums.{fold-append}
use Rattle.escaped_texts.specs.Elements.{element, open_tag}
use Rattle.escaped_texts.specs.Balanced.{ElementNames, Content, is_void, markup_step, markup_behind}
use Rattle.outcome_states.specs.declared.answer.Outcome.{Outcome}
use Rattle.outcome_states.specs.declared.answer.OutcomeResult.{OutcomeResult}
use Rattle.report_details.specs.Reported.{ReportedModel, ReportedTest, Extras}
use Rattle.report_details.specs.Groups.{groups_of, has_other}
use Rattle.report_details.specs.Marks.{one, class_of, scope_of, numbered, heading}
use Rattle.report_page.specs.declared.constants.TheConstants.{FRONT, STYLE, MORE_STYLE, BODY, BAR, BAR_END, LEGEND, FOOT}
use Rattle.report_page.specs.Summary.{agreeing_card, apart_count, card, cards_text, class_cells, class_count, difference_cell, difference_cells, difference_count, difference_row, difference_rows, model_anchor, model_anchors, model_line, model_lines, model_link, number_cell, refused_count}
use Rattle.report_page.specs.Table.{cell_class, cell_text, cells_text, column_head, group_mark, grouped_row, test_link, test_row_attributes, test_rows}
use Rattle.report_page.specs.Page.{agreeing_label, content, differences, extent, extent_line, filter_label, filter_words, filters, filters_text, front_part, grid, grid_attributes, grid_class, heads, left_part, left_words, model_attributes, model_details, model_text, models_details, models_part, observation_heads, observations, refusals_part, report_page, summary_part, table_class, table_head, table_part, tests_part, title_part, type_line, wrapped_table}
use Rattle.report_answers.specs.Scripts.{IsPlainMarkup, Passes, script_count}
use Rattle.report_answers.specs.Whole.{HasPlainDrawings, IsWellFormed}
use Rattle.report_answers.proofs.Passing.{none_plain, beside, each_beside, escaped_is_plain, no_angle_is_plain, onward, count_behind}
use Rattle.report_answers.proofs.Elements.{element_is_plain, open_passes}
use Rattle.report_answers.proofs.Tests.{result_is_plain, letter_is_plain, line_end_is_plain, tests_are_plain}

-- ---- numbers

card_is_plain : (number : ℕ) (words : List ℕ) → IsPlainMarkup (card number words)
unfolding card
card_is_plain number words =
    element_is_plain (codes "div") (class_of (codes "card")) refl refl refl refl
    (beside (element_is_plain (codes "b") [] refl refl refl refl (escaped_is_plain (decimal number)))
    (escaped_is_plain words))

cards_are_plain : (all apart refused : ℕ) → IsPlainMarkup (cards_text all apart refused)
unfolding cards_text agreeing_card
cards_are_plain all apart refused =
    beside (beside (beside (card_is_plain all (codes "tests"))
    (card_is_plain apart (codes "tell models apart")))
    (card_is_plain (all - apart) (codes "agree everywhere")))
    (card_is_plain refused (codes "with a refusal"))

anchor_is_plain : (number : ℕ) (m : ReportedModel) → IsPlainMarkup (model_anchor number m)
unfolding model_anchor
anchor_is_plain number m =
    element_is_plain (codes "a") (one (codes "href") (numbered (codes "#m") number))
    refl refl refl refl (escaped_is_plain m.name)

space_is_plain : IsPlainMarkup (codes " ")
space_is_plain around = record { goes = refl; opens_none = refl }

anchors_are_plain : (number : ℕ) (models : List ReportedModel)
    → IsPlainMarkup (model_anchors number models)
anchors_are_plain number [] = none_plain
anchors_are_plain number (m ∷ models) =
    beside (beside space_is_plain (anchor_is_plain number m)) (anchors_are_plain (number + 1) models)

link_is_plain : (number : ℕ) (m : ReportedModel) → IsPlainMarkup (model_link number m)
unfolding model_link
link_is_plain number m =
    element_is_plain (codes "th") (scope_of (codes "row")) refl refl refl refl
    (anchor_is_plain number m)

number_is_plain : (class : List ℕ) (number : ℕ) → IsPlainMarkup (number_cell class number)
unfolding number_cell
number_is_plain class number =
    element_is_plain (codes "td") (class_of class) refl refl refl refl
    (escaped_is_plain (decimal number))

class_cells_are_plain : (tests : List ReportedTest) (model : ℕ)
    → IsPlainMarkup (class_cells tests model)
unfolding class_cells
class_cells_are_plain tests model =
    beside (beside (beside
    (number_is_plain (codes "N") (class_count tests model (codes "N")))
    (number_is_plain (codes "S") (class_count tests model (codes "S"))))
    (number_is_plain (codes "A") (class_count tests model (codes "A"))))
    (number_is_plain (codes "X") (class_count tests model (codes "X")))

model_line_is_plain : (tests : List ReportedTest) (number : ℕ) (m : ReportedModel)
    → IsPlainMarkup (model_line tests number m)
unfolding model_line
model_line_is_plain tests number m =
    element_is_plain (codes "tr") [] refl refl refl refl
    (beside (link_is_plain number m) (class_cells_are_plain tests number))

model_lines_are_plain : (tests : List ReportedTest) (number : ℕ) (models : List ReportedModel)
    → IsPlainMarkup (model_lines tests number models)
model_lines_are_plain tests number [] = none_plain
model_lines_are_plain tests number (m ∷ models) =
    beside (model_line_is_plain tests number m) (model_lines_are_plain tests (number + 1) models)

dash_is_plain : IsPlainMarkup (codes "<td>&#8211;</td>")
unfolding is_void
dash_is_plain around = record { goes = refl; opens_none = refl }

difference_is_plain : (tests : List ReportedTest) (first second : ℕ)
    → IsPlainMarkup (difference_cell tests first second)
unfolding difference_cell
difference_is_plain tests first second =
    cond_both (first == second) (codes "<td>&#8211;</td>")
    (number_cell [] (difference_count tests first second)) IsPlainMarkup
    (λ _. dash_is_plain) (λ _. number_is_plain [] (difference_count tests first second))

differences_are_plain : (tests : List ReportedTest) (first second : ℕ)
    → (models : List ReportedModel) → IsPlainMarkup (difference_cells tests first second models)
differences_are_plain tests first second [] = none_plain
differences_are_plain tests first second (m ∷ models) =
    beside (difference_is_plain tests first second)
    (differences_are_plain tests first (second + 1) models)

difference_row_is_plain : (tests : List ReportedTest) (all : List ReportedModel) (number : ℕ)
    → (m : ReportedModel) → IsPlainMarkup (difference_row tests all number m)
unfolding difference_row
difference_row_is_plain tests all number m =
    element_is_plain (codes "tr") [] refl refl refl refl
    (beside (link_is_plain number m) (differences_are_plain tests number 0 all))

difference_rows_are_plain : (tests : List ReportedTest) (all : List ReportedModel) (number : ℕ)
    → (models : List ReportedModel) → IsPlainMarkup (difference_rows tests all number models)
difference_rows_are_plain tests all number [] = none_plain
difference_rows_are_plain tests all number (m ∷ models) =
    beside (difference_row_is_plain tests all number m)
    (difference_rows_are_plain tests all (number + 1) models)

-- ---- the table

column_head_is_plain : (m : ReportedModel) → IsPlainMarkup (column_head m)
unfolding column_head
column_head_is_plain m =
    element_is_plain (codes "th") (scope_of (codes "col")) refl refl refl refl
    (element_is_plain (codes "span") [] refl refl refl refl (escaped_is_plain m.name))

group_mark_is_plain : (is_apart : Bool) (group : ℕ) → IsPlainMarkup (group_mark is_apart group)
unfolding group_mark
group_mark_is_plain true group =
    element_is_plain (codes "sup") [] refl refl refl refl (letter_is_plain group)
group_mark_is_plain false group = none_plain

cell_is_plain : (is_apart : Bool) (found : OutcomeResult) (group : ℕ)
    → IsPlainMarkup (cell_text is_apart found group)
unfolding cell_text
cell_is_plain is_apart found group =
    element_is_plain (codes "td") (class_of (cell_class found group)) refl refl refl refl
    (beside (result_is_plain found) (group_mark_is_plain is_apart group))

cells_are_plain : (is_apart : Bool) (outcomes : List Outcome) (groups : List ℕ)
    → IsPlainMarkup (cells_text is_apart outcomes groups)
cells_are_plain is_apart [] groups = none_plain
cells_are_plain is_apart (o ∷ outcomes) [] = none_plain
cells_are_plain is_apart (o ∷ outcomes) (g ∷ groups) =
    beside (cell_is_plain is_apart o.result g) (cells_are_plain is_apart outcomes groups)

test_link_is_plain : (number : ℕ) (name : List ℕ) → IsPlainMarkup (test_link number name)
unfolding test_link
test_link_is_plain number name =
    element_is_plain (codes "th") (scope_of (codes "row")) refl refl refl refl
    (element_is_plain (codes "a") (one (codes "href") (numbered (codes "#t") number))
    refl refl refl refl (escaped_is_plain name))

row_is_plain : (number : ℕ) (t : ReportedTest) (groups : List ℕ)
    → IsPlainMarkup (grouped_row number t groups)
unfolding grouped_row
row_is_plain number t groups =
    element_is_plain (codes "tr") (test_row_attributes t groups) refl refl refl refl
    (beside (test_link_is_plain number t.name) (cells_are_plain (has_other groups) t.outcomes groups))

rows_are_plain : (number : ℕ) (tests : List ReportedTest) → IsPlainMarkup (test_rows number tests)
rows_are_plain number [] = none_plain
rows_are_plain number (t ∷ tests) =
    beside (beside (row_is_plain number t (groups_of t.outcomes)) line_end_is_plain)
    (rows_are_plain (number + 1) tests)

-- ---- parts of the page

title_is_plain : (models : List ReportedModel) (tests : ℕ) → IsPlainMarkup (title_part models tests)
unfolding title_part extent_line
title_is_plain models tests =
    element_is_plain (codes "header") [] refl refl refl refl
    (beside (element_is_plain (codes "h1") [] refl refl refl refl (escaped_is_plain (codes "Tests under models")))
    (element_is_plain (codes "p") (class_of (codes "soft")) refl refl refl refl
    (beside (escaped_is_plain (extent tests (length models))) (anchors_are_plain 0 models))))

th_is_plain : (words : List ℕ) → IsPlainMarkup (heading (codes "th") words)
th_is_plain words = element_is_plain (codes "th") [] refl refl refl refl (escaped_is_plain words)

h2_is_plain : (words : List ℕ) → IsPlainMarkup (heading (codes "h2") words)
h2_is_plain words = element_is_plain (codes "h2") [] refl refl refl refl (escaped_is_plain words)

observation_heads_are_plain : IsPlainMarkup observation_heads
unfolding observation_heads
observation_heads_are_plain =
    beside (beside (beside (beside (th_is_plain (codes "Model")) (th_is_plain (codes "Never")))
    (th_is_plain (codes "Sometimes"))) (th_is_plain (codes "Always"))) (th_is_plain (codes "refused"))

head_is_plain : {heads : List ℕ} → IsPlainMarkup heads → IsPlainMarkup (table_head heads)
head_is_plain plain =
    element_is_plain (codes "thead") [] refl refl refl refl
    (element_is_plain (codes "tr") [] refl refl refl refl plain)

wrapped_is_plain : (class : List ℕ) {head rows : List ℕ} → IsPlainMarkup head → IsPlainMarkup rows
    → IsPlainMarkup (wrapped_table class head rows)
unfolding wrapped_table
wrapped_is_plain class head rows =
    element_is_plain (codes "div") (class_of (codes "wrap")) refl refl refl refl
    (element_is_plain (codes "table") (class_of class) refl refl refl refl
    (beside head (element_is_plain (codes "tbody") [] refl refl refl refl rows)))

observations_are_plain : (models : List ReportedModel) (tests : List ReportedTest)
    → IsPlainMarkup (observations models tests)
unfolding observations
observations_are_plain models tests =
    element_is_plain (codes "div") [] refl refl refl refl
    (beside (h2_is_plain (codes "Observations of each model"))
    (wrapped_is_plain (codes "num") (head_is_plain observation_heads_are_plain)
    (model_lines_are_plain tests 0 models)))

heads_are_plain : (first : List ℕ) (models : List ReportedModel) → IsPlainMarkup (heads first models)
unfolding heads
heads_are_plain first models =
    head_is_plain (beside (th_is_plain first) (each_beside column_head models column_head_is_plain))

pairs_are_plain : (models : List ReportedModel) (tests : List ReportedTest)
    → IsPlainMarkup (differences models tests)
unfolding differences
pairs_are_plain models tests =
    element_is_plain (codes "div") [] refl refl refl refl
    (beside (h2_is_plain (codes "Tests on which two models differ"))
    (wrapped_is_plain (table_class (length models)) (heads_are_plain [] models)
    (difference_rows_are_plain tests models 0 models)))

summary_is_plain : (models : List ReportedModel) (tests : List ReportedTest)
    → IsPlainMarkup (summary_part models tests)
unfolding summary_part
summary_is_plain models tests =
    beside
    (element_is_plain (codes "section") (class_of (codes "cards")) refl refl refl refl
    (cards_are_plain (length tests) (apart_count tests) (refused_count tests)))
    (element_is_plain (codes "div") (class_of (codes "two")) refl refl refl refl
    (beside (observations_are_plain models tests) (pairs_are_plain models tests)))

label_is_plain : (id words : List ℕ) (number : ℕ) → IsPlainMarkup (filter_label id words number)
unfolding filter_label
label_is_plain id words number =
    element_is_plain (codes "label") (one (codes "for") id) refl refl refl refl
    (escaped_is_plain (filter_words words number))

labels_are_plain : (all apart refused : ℕ) → IsPlainMarkup (filters_text all apart refused)
unfolding filters_text agreeing_label
labels_are_plain all apart refused =
    beside (beside (beside (label_is_plain (codes "w-all") (codes "all") all)
    (label_is_plain (codes "w-differ") (codes "tell models apart") apart))
    (label_is_plain (codes "w-same") (codes "agree") (all - apart)))
    (label_is_plain (codes "w-refused") (codes "with a refusal") refused)

grid_is_plain : (models : List ReportedModel) (tests : List ReportedTest)
    → IsPlainMarkup (grid models tests)
unfolding grid
grid_is_plain models tests =
    element_is_plain (codes "table") (grid_attributes (grid_class (length models)))
    refl refl refl refl
    (beside (heads_are_plain (codes "Test") models)
    (element_is_plain (codes "tbody") [] refl refl refl refl (rows_are_plain 0 tests)))

bar_opens : (around : ElementNames) → Passes (Content around) (Content (codes "div" ∷ around)) BAR.now
unfolding is_void
bar_opens around = record { goes = refl; opens_none = refl }

bar_closes : (around : ElementNames)
    → Passes (Content (codes "div" ∷ around)) (Content around) BAR_END.now
unfolding is_void
bar_closes around = record { goes = refl; opens_none = refl }

table_is_plain : (models : List ReportedModel) (tests : List ReportedTest)
    → IsPlainMarkup (table_part models tests)
unfolding table_part
table_is_plain models tests around =
    let inner = Content (codes "div" ∷ around) in
    let labels = labels_are_plain (length tests) (apart_count tests) (refused_count tests) in
    let wrapped = element_is_plain (codes "div") (class_of (codes "wrap big")) refl refl refl refl (grid_is_plain models tests) in
    onward (Content around) (Content around) (Content around)
    (BAR.now ++ filters tests ++ BAR_END.now)
    (element (codes "div") (class_of (codes "wrap big")) (grid models tests))
    (onward (Content around) inner (Content around) (BAR.now ++ filters tests) BAR_END.now
    (onward (Content around) inner inner BAR.now (filters tests) (bar_opens around)
    (labels (codes "div" ∷ around)))
    (bar_closes around))
    (wrapped around)

legend_is_plain : IsPlainMarkup LEGEND.now
unfolding is_void
legend_is_plain around = record { goes = refl; opens_none = refl }

left_is_plain : (left_out : ℕ) → IsPlainMarkup (left_part left_out)
unfolding left_part
left_is_plain left_out =
    cond_both (left_out == 0) _ _ IsPlainMarkup
    (λ _. none_plain)
    (λ _. element_is_plain (codes "p") [] refl refl refl refl (escaped_is_plain (left_words left_out)))

refusals_are_plain : (refusals : List ℕ) → IsPlainMarkup (refusals_part refusals)
unfolding refusals_part
refusals_are_plain refusals =
    cond_both (length refusals == 0) _ _ IsPlainMarkup
    (λ _. none_plain)
    (λ _. beside (h2_is_plain (codes "Refused texts"))
    (element_is_plain (codes "pre") [] refl refl refl refl (escaped_is_plain refusals)))

tests_part_is_plain : (models : List ReportedModel) (tests : List ReportedTest) (left_out : ℕ)
    → (refusals : List ℕ) → All HasPlainDrawings tests
    → IsPlainMarkup (tests_part models tests left_out refusals)
unfolding tests_part
tests_part_is_plain models tests left_out refusals drawn =
    beside (beside (beside legend_is_plain (left_is_plain left_out))
    (tests_are_plain models 0 tests drawn)) (refusals_are_plain refusals)

model_is_plain : (number : ℕ) (m : ReportedModel) → IsPlainMarkup (model_details number m)
unfolding model_details model_attributes model_text
model_is_plain number m =
    element_is_plain (codes "details") (model_attributes number) refl refl refl refl
    (beside
    (element_is_plain (codes "summary") [] refl refl refl refl
    (element_is_plain (codes "b") [] refl refl refl refl (escaped_is_plain m.name)))
    (element_is_plain (codes "div") (class_of (codes "body")) refl refl refl refl
    (element_is_plain (codes "pre") [] refl refl refl refl (escaped_is_plain m.text))))

models_are_plain : (number : ℕ) (models : List ReportedModel)
    → IsPlainMarkup (models_details number models)
models_are_plain number [] = none_plain
models_are_plain number (m ∷ models) =
    beside (model_is_plain number m) (models_are_plain (number + 1) models)

content_is_plain : (models : List ReportedModel) (tests : List ReportedTest) (e : Extras)
    → All HasPlainDrawings tests → IsPlainMarkup (content models tests e)
unfolding content models_part
content_is_plain models tests e drawn =
    beside (beside (beside (summary_is_plain models tests) (table_is_plain models tests))
    (tests_part_is_plain models tests e.left_out e.refusals drawn))
    (beside (h2_is_plain (codes "Models")) (models_are_plain 0 models))

-- ---- the whole

abbrev inside_html : ElementNames
inside_html = codes "html" ∷ []

abbrev inside_head : ElementNames
inside_head = codes "style" ∷ codes "head" ∷ inside_html

abbrev inside_body : ElementNames
inside_body = codes "body" ∷ inside_html

html_opens : Passes (Content []) (Content inside_html) (open_tag (codes "html") (one (codes "lang") (codes "en")))
unfolding is_void
html_opens = open_passes (codes "html") (one (codes "lang") (codes "en")) [] refl refl refl

head_opens : Passes (Content inside_html) (Content inside_head) FRONT.now
unfolding is_void
head_opens = record { goes = refl; opens_none = refl }

style_is_plain : IsPlainMarkup STYLE.now
style_is_plain = no_angle_is_plain STYLE.now refl

more_style_is_plain : IsPlainMarkup MORE_STYLE.now
more_style_is_plain = no_angle_is_plain MORE_STYLE.now refl

body_opens : Passes (Content inside_head) (Content inside_body) BODY.now
unfolding is_void
body_opens = record { goes = refl; opens_none = refl }

front_opens : Passes (Content []) (Content inside_body) front_part
unfolding front_part
front_opens =
    let html = open_tag (codes "html") (one (codes "lang") (codes "en")) in
    onward (Content []) (Content inside_head) (Content inside_body)
    (html ++ FRONT.now ++ STYLE.now ++ MORE_STYLE.now) BODY.now
    (onward (Content []) (Content inside_head) (Content inside_head)
    (html ++ FRONT.now ++ STYLE.now) MORE_STYLE.now
    (onward (Content []) (Content inside_head) (Content inside_head) (html ++ FRONT.now) STYLE.now
    (onward (Content []) (Content inside_html) (Content inside_head) html FRONT.now html_opens head_opens)
    (style_is_plain inside_head))
    (more_style_is_plain inside_head))
    body_opens

-- the end of a page has its script
foot_closes : markup_behind (Content inside_body) FOOT.now ≡ Content []
unfolding is_void
foot_closes = refl

foot_has_script : script_count (Content inside_body) FOOT.now ≡ 1
unfolding is_void
foot_has_script = refl

regrouped : (a b c d e : List ℕ) → a ++ b ++ c ++ d ++ e ≡ a ++ (b ++ c ++ d ++ e)
regrouped a b c d e = simp append_assoc

whole : (front title main : List ℕ) → Passes (Content []) (Content inside_body) front
    → IsPlainMarkup title → IsPlainMarkup main
    → Passes (Content []) (Content inside_body) (front ++ title ++ main)
whole front title main opens plain_title plain_main =
    onward (Content []) (Content inside_body) (Content inside_body) (front ++ title) main
    (onward (Content []) (Content inside_body) (Content inside_body) front title opens
    (plain_title inside_body))
    (plain_main inside_body)

pub page_is_well_formed : (models : List ReportedModel) (tests : List ReportedTest) (e : Extras)
    → All HasPlainDrawings tests → IsWellFormed (report_page models tests e)
unfolding report_page
page_is_well_formed models tests e drawn =
    let title = title_part models (length tests) in
    let main = element (codes "main") [] (content models tests e) in
    let opened = front_part ++ title ++ main in
    let plain_main = element_is_plain (codes "main") [] refl refl refl refl (content_is_plain models tests e drawn) in
    let passed = whole front_part title main front_opens (title_is_plain models (length tests)) plain_main in
    record {
      body = opened ++ FOOT.now;
      begins = regrouped type_line front_part title main FOOT.now;
      closes = fold-append markup_step (Content []) opened FOOT.now ∙ ap (λ k. markup_behind k FOOT.now) (passed.goes) ∙ foot_closes;
      has_one_script = count_behind (Content []) (Content inside_body) opened FOOT.now 1 passed foot_has_script;
    }
