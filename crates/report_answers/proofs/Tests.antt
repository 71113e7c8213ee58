-- What is said of each test opens no script, and closes its elements in order.
use Rattle.std.proofs.Common.{◌≡◌, ℕ, suc, ◌+◌, ◌/◌, ◌%◌, List, [], ◌∷◌, Some, None, Option, length, refl, subst, arith}
use Rattle.std.specs.Prelude.{◌==◌, nat_lt, All, codes, decimal, slice_get}
use Rattle.std.proofs.lemmas.Bool.{cond_both, ne_eqb}
use Rattle.std.proofs.lemmas.Option.{slice_get_within, get_or_from_slice_get}
use Rattle.outcome_texts.specs.Cells.{holds_sign}
use Rattle.outcome_texts.specs.Log.{observation_word, refusal_text}
use Rattle.outcome_states.specs.declared.answer.CountedState.{CountedState}
use Rattle.outcome_states.specs.declared.answer.Evaluation.{Evaluation}
use Rattle.outcome_states.specs.declared.answer.Observation.{Observation}
use Rattle.outcome_states.specs.declared.answer.Observation.TheVariants.{Never, Sometimes, Always}
use Rattle.outcome_states.specs.declared.answer.Outcome.{Outcome}
use Rattle.outcome_states.specs.declared.answer.OutcomeResult.{OutcomeResult}
use Rattle.outcome_states.specs.declared.answer.OutcomeResult.TheVariants.{Refused, Evaluated}
use Rattle.report_details.specs.Reported.{ReportedModel, ReportedTest}
use Rattle.report_details.specs.Groups.{groups_of, letter, letter_number}
use Rattle.report_details.specs.Marks.{class_of, scope_of, sign, numbers, evaluation_mark, result_mark}
use Rattle.report_details.specs.Names.{group_text, firsts_from}
use Rattle.report_details.specs.Figures.{figure, figure_if, figure_at, figure_of, figures, drawing_groups}
use Rattle.report_details.specs.StateTable.{count_text, count_cell, count_if, count_of, counts_text, state_class, state_name, state_row, group_head, state_heads, states_heading, states_table, states_part}
use Rattle.report_details.specs.States.{all_states, count_in}
use Rattle.report_details.specs.Details.{chip_class, chip, chip_if, chip_of, chips, flag_words, flag_text, result_flags, flags_text, condition_part, first_condition, text_part, two_parts, body_text, test_attributes, summary_text, test_in_groups, test_details, tests_details}
use Rattle.report_answers.specs.Scripts.{IsPlainMarkup}
use Rattle.report_answers.specs.Whole.{HasPlainDrawings}
use Rattle.report_answers.proofs.Passing.{none_plain, beside, each_beside, escaped_is_plain, decimal_is_plain, byte_is_plain}
use Rattle.report_answers.proofs.Elements.{element_is_plain}

-- ---- marks

sign_is_plain : (o : Observation) → IsPlainMarkup (sign o)
unfolding sign
sign_is_plain Never = λ around. record { goes = refl; opens_none = refl }
sign_is_plain Sometimes = λ around. record { goes = refl; opens_none = refl }
sign_is_plain Always = λ around. record { goes = refl; opens_none = refl }

evaluation_is_plain : (e : Evaluation) → IsPlainMarkup (evaluation_mark e)
unfolding evaluation_mark
evaluation_is_plain e =
    beside (beside (sign_is_plain e.observation)
    (element_is_plain (codes "i") [] refl refl refl refl
    (escaped_is_plain (observation_word e.observation))))
    (escaped_is_plain (numbers e))

pub result_is_plain : (found : OutcomeResult) → IsPlainMarkup (result_mark found)
unfolding result_mark
result_is_plain (Refused refusal) = escaped_is_plain (refusal_text refusal)
result_is_plain (Evaluated e) = evaluation_is_plain e

number_is_plain : (group : ℕ) → IsPlainMarkup (letter_number group)
number_is_plain group =
    cond_both (nat_lt group 26) _ _ IsPlainMarkup (λ _. none_plain)
    (λ _. decimal_is_plain (group / 26))

pub letter_is_plain : (group : ℕ) → IsPlainMarkup (letter group)
unfolding letter
letter_is_plain group =
    beside
    (byte_is_plain (97 + group % 26) (ne_eqb (97 + group % 26) 60 (λ e. omega (arith, e))))
    (number_is_plain group)

-- ---- chips

chip_is_plain : (group : List ℕ) (found : OutcomeResult) → IsPlainMarkup (chip group found)
unfolding chip
chip_is_plain group found =
    element_is_plain (codes "span") (class_of (chip_class found)) refl refl refl refl
    (beside (beside (escaped_is_plain group) (escaped_is_plain (codes ": "))) (result_is_plain found))

chip_if_is_plain : (group : List ℕ) (o : Option Outcome) → IsPlainMarkup (chip_if group o)
chip_if_is_plain group None = none_plain
chip_if_is_plain group (Some o) = chip_is_plain group o.result

chips_are_plain : (models : List ReportedModel) (groups firsts : List ℕ) (outcomes : List Outcome)
    → IsPlainMarkup (chips models groups firsts outcomes)
chips_are_plain models groups firsts outcomes =
    each_beside (chip_of models groups outcomes) firsts
    (λ first. chip_if_is_plain (group_text models groups first) (slice_get outcomes first))

-- ---- the table of states

count_text_is_plain : (count : ℕ) → IsPlainMarkup (count_text count)
unfolding count_text
count_text_is_plain count =
    cond_both (count == 0) (codes "&#183;") (decimal count) IsPlainMarkup
    (λ _ around. record { goes = refl; opens_none = refl }) (λ _. decimal_is_plain count)

count_is_plain : (s : CountedState) (o : Option Outcome) → IsPlainMarkup (count_if s o)
unfolding count_cell
count_is_plain s None = none_plain
count_is_plain s (Some o) =
    element_is_plain (codes "td") [] refl refl refl refl (count_text_is_plain (count_in s o))

state_name_is_plain : (s : CountedState) → IsPlainMarkup (state_name s)
unfolding state_name
state_name_is_plain s =
    element_is_plain (codes "th") (scope_of (codes "row")) refl refl refl refl
    (element_is_plain (codes "code") [] refl refl refl refl (escaped_is_plain s.text))

counts_are_plain : (s : CountedState) (outcomes : List Outcome) (firsts : List ℕ)
    → IsPlainMarkup (counts_text s outcomes firsts)
counts_are_plain s outcomes firsts =
    each_beside (count_of s outcomes) firsts (λ first. count_is_plain s (slice_get outcomes first))

state_row_is_plain : (outcomes : List Outcome) (firsts : List ℕ) (s : CountedState)
    → IsPlainMarkup (state_row outcomes firsts s)
unfolding state_row
state_row_is_plain outcomes firsts s =
    element_is_plain (codes "tr") (class_of (state_class outcomes s)) refl refl refl refl
    (beside (beside (state_name_is_plain s)
    (element_is_plain (codes "td") [] refl refl refl refl (escaped_is_plain (holds_sign s.holds))))
    (counts_are_plain s outcomes firsts))

group_head_is_plain : (models : List ReportedModel) (groups : List ℕ) (first : ℕ)
    → IsPlainMarkup (group_head models groups first)
unfolding group_head
group_head_is_plain models groups first =
    element_is_plain (codes "th") (scope_of (codes "col")) refl refl refl refl
    (beside (beside (letter_is_plain first) (escaped_is_plain (codes ": ")))
    (escaped_is_plain (group_text models groups first)))

state_heads_are_plain : (models : List ReportedModel) (groups firsts : List ℕ)
    → IsPlainMarkup (state_heads models groups firsts)
unfolding state_heads
state_heads_are_plain models groups firsts =
    element_is_plain (codes "tr") [] refl refl refl refl
    (beside (beside
    (element_is_plain (codes "th") [] refl refl refl refl (escaped_is_plain (codes "State")))
    (element_is_plain (codes "th") [] refl refl refl refl (escaped_is_plain (codes "P"))))
    (each_beside (group_head models groups) firsts (group_head_is_plain models groups)))

states_table_is_plain : (models : List ReportedModel) (groups firsts : List ℕ)
    → (outcomes : List Outcome) → IsPlainMarkup (states_table models groups firsts outcomes)
unfolding states_table
states_table_is_plain models groups firsts outcomes =
    element_is_plain (codes "table") (class_of (codes "num")) refl refl refl refl
    (beside
    (element_is_plain (codes "thead") [] refl refl refl refl
    (state_heads_are_plain models groups firsts))
    (element_is_plain (codes "tbody") [] refl refl refl refl
    (each_beside (state_row outcomes firsts) (all_states outcomes)
    (state_row_is_plain outcomes firsts))))

states_heading_is_plain : IsPlainMarkup states_heading
unfolding states_heading
states_heading_is_plain =
    element_is_plain (codes "h3") [] refl refl refl refl
    (escaped_is_plain (codes "Final states and how many kept executions end in them"))

states_part_is_plain : (models : List ReportedModel) (groups firsts : List ℕ)
    → (outcomes : List Outcome) → IsPlainMarkup (states_part models groups firsts outcomes)
unfolding states_part
states_part_is_plain models groups firsts outcomes =
    element_is_plain (codes "div") [] refl refl refl refl
    (beside states_heading_is_plain
    (element_is_plain (codes "div") (class_of (codes "wrap")) refl refl refl refl
    (states_table_is_plain models groups firsts outcomes)))

-- ---- flags

flag_is_plain : (model flag : List ℕ) → IsPlainMarkup (flag_text model flag)
unfolding flag_text
flag_is_plain model flag =
    element_is_plain (codes "p") [] refl refl refl refl (escaped_is_plain (flag_words model flag))

result_flags_are_plain : (model : List ℕ) (found : OutcomeResult)
    → IsPlainMarkup (result_flags model found)
result_flags_are_plain model (Refused refusal) = none_plain
result_flags_are_plain model (Evaluated e) =
    each_beside (flag_text model) e.flags (flag_is_plain model)

flags_are_plain : (models : List ReportedModel) (outcomes : List Outcome)
    → IsPlainMarkup (flags_text models outcomes)
flags_are_plain [] outcomes = none_plain
flags_are_plain (m ∷ models) [] = none_plain
flags_are_plain (m ∷ models) (o ∷ outcomes) =
    beside (result_flags_are_plain m.name o.result) (flags_are_plain models outcomes)

-- ---- drawings

figure_is_plain : (group drawing : List ℕ) → IsPlainMarkup drawing
    → IsPlainMarkup (figure_if group drawing)
unfolding figure_if figure
figure_is_plain group drawing plain =
    cond_both (length drawing == 0) _ _ IsPlainMarkup (λ _. none_plain)
    (λ _. element_is_plain (codes "figure") [] refl refl refl refl
    (beside (element_is_plain (codes "b") [] refl refl refl refl (escaped_is_plain group)) plain))

figure_at_is_plain : (group : List ℕ) (drawings : List (List ℕ)) (first : ℕ)
    → (o : Option (List ℕ)) → All IsPlainMarkup drawings → slice_get drawings first ≡ o
    → IsPlainMarkup (figure_at group o)
figure_at_is_plain group drawings first None plain at = none_plain
figure_at_is_plain group drawings first (Some drawing) plain at =
    let inside = slice_get_within drawings first drawing at in
    let is = get_or_from_slice_get drawings first drawing drawing at in
    figure_is_plain group drawing
    (subst (λ (d : List ℕ). IsPlainMarkup d) is (plain first drawing inside))

figures_are_plain : (models : List ReportedModel) (drawings : List (List ℕ))
    → All IsPlainMarkup drawings → IsPlainMarkup (figures models drawings)
figures_are_plain models drawings plain =
    let groups = drawing_groups drawings in
    each_beside (figure_of models drawings groups) (firsts_from 0 groups)
    (λ first. figure_at_is_plain (group_text models groups first) drawings first
    (slice_get drawings first) plain refl)

-- ---- a test

first_condition_is_plain : (outcomes : List Outcome) → IsPlainMarkup (first_condition outcomes)
unfolding condition_part
first_condition_is_plain [] = none_plain
first_condition_is_plain (o ∷ outcomes) =
    element_is_plain (codes "p") [] refl refl refl refl
    (beside (escaped_is_plain (codes "Condition "))
    (element_is_plain (codes "code") [] refl refl refl refl (escaped_is_plain o.condition)))

text_part_is_plain : (text : List ℕ) → IsPlainMarkup (text_part text)
unfolding text_part
text_part_is_plain text =
    element_is_plain (codes "div") [] refl refl refl refl
    (beside (element_is_plain (codes "h3") [] refl refl refl refl (escaped_is_plain (codes "Text")))
    (element_is_plain (codes "pre") [] refl refl refl refl (escaped_is_plain text)))

two_parts_are_plain : (models : List ReportedModel) (t : ReportedTest) (groups firsts : List ℕ)
    → IsPlainMarkup (two_parts models t groups firsts)
unfolding two_parts
two_parts_are_plain models t groups firsts =
    element_is_plain (codes "div") (class_of (codes "two")) refl refl refl refl
    (beside (text_part_is_plain t.text) (states_part_is_plain models groups firsts t.outcomes))

body_is_plain : (models : List ReportedModel) (t : ReportedTest) (groups firsts : List ℕ)
    → HasPlainDrawings t → IsPlainMarkup (body_text models t groups firsts)
unfolding body_text
body_is_plain models t groups firsts drawn =
    beside (beside (beside (first_condition_is_plain t.outcomes)
    (two_parts_are_plain models t groups firsts)) (flags_are_plain models t.outcomes))
    (figures_are_plain models t.drawings drawn)

summary_is_plain : (models : List ReportedModel) (t : ReportedTest) (groups firsts : List ℕ)
    → IsPlainMarkup (summary_text models t groups firsts)
unfolding summary_text
summary_is_plain models t groups firsts =
    element_is_plain (codes "summary") [] refl refl refl refl
    (beside (element_is_plain (codes "b") [] refl refl refl refl (escaped_is_plain t.name))
    (chips_are_plain models groups firsts t.outcomes))

in_groups_is_plain : (models : List ReportedModel) (number : ℕ) (t : ReportedTest)
    → (groups firsts : List ℕ) → HasPlainDrawings t
    → IsPlainMarkup (test_in_groups models number t groups firsts)
unfolding test_in_groups
in_groups_is_plain models number t groups firsts drawn =
    element_is_plain (codes "details") (test_attributes number t groups) refl refl refl refl
    (beside (summary_is_plain models t groups firsts)
    (element_is_plain (codes "div") (class_of (codes "body")) refl refl refl refl
    (body_is_plain models t groups firsts drawn)))

test_is_plain : (models : List ReportedModel) (number : ℕ) (t : ReportedTest) → HasPlainDrawings t
    → IsPlainMarkup (test_details models number t)
test_is_plain models number t drawn =
    let groups = groups_of t.outcomes in
    in_groups_is_plain models number t groups (firsts_from 0 groups) drawn

pub line_end_is_plain : IsPlainMarkup (codes "\n")
line_end_is_plain around = record { goes = refl; opens_none = refl }

pub tests_are_plain : (models : List ReportedModel) (number : ℕ) (tests : List ReportedTest)
    → All HasPlainDrawings tests → IsPlainMarkup (tests_details models number tests)
tests_are_plain models number [] drawn = none_plain
tests_are_plain models number (t ∷ tests) drawn =
    beside (beside (test_is_plain models number t (drawn 0 t (omega arith))) line_end_is_plain)
    (tests_are_plain models (number + 1) tests
    (λ k d inside. drawn (suc k) d (omega (arith, inside))))
