-- What is said of each test: what each group of models says, its text, its final states with their
-- counts, the flags, and the drawings. `put_tests` cites the last definition.
use Rattle.std.specs.Prelude.{ℕ, ◌+◌, Option, Some, None, List, [], ◌∷◌, ◌++◌, codes, slice_get}
use Rattle.std.specs.List.{flat_map}
use Rattle.escaped_texts.specs.Elements.{Attribute, element}
use Rattle.escaped_texts.specs.Escaped.{escaped}
use Rattle.outcome_states.specs.declared.answer.Outcome.{Outcome}
use Rattle.outcome_states.specs.declared.answer.OutcomeResult.{OutcomeResult}
use Rattle.outcome_states.specs.declared.answer.OutcomeResult.TheVariants.{Refused, Evaluated}
use Rattle.report_details.specs.Reported.{ReportedModel, ReportedTest}
use Rattle.report_details.specs.Groups.{groups_of, has_other, keys_text}
use Rattle.report_details.specs.Marks.{class_of, numbered, heading, result_class, result_mark, test_class}
use Rattle.report_details.specs.Names.{group_text, firsts_from}
use Rattle.report_details.specs.Figures.{figures}
use Rattle.report_details.specs.StateTable.{states_part}

-- ---- what a group says

unfoldable pub chip_class : OutcomeResult → List ℕ
chip_class found = codes "chip " ++ result_class found

unfoldable pub chip : List ℕ → OutcomeResult → List ℕ
chip group found =
    element (codes "span") (class_of (chip_class found))
    (escaped group ++ escaped (codes ": ") ++ result_mark found)

abbrev pub chip_if : List ℕ → Option Outcome → List ℕ
chip_if group None = []
chip_if group (Some o) = chip group o.result

-- what the first model of a group says, and with it the others
abbrev pub chip_of : List ReportedModel → (groups : List ℕ) → List Outcome → ℕ → List ℕ
chip_of models groups outcomes first =
    chip_if (group_text models groups first) (slice_get outcomes first)

abbrev pub chips : List ReportedModel → (groups firsts : List ℕ) → List Outcome → List ℕ
chips models groups firsts outcomes = flat_map (chip_of models groups outcomes) firsts

-- ---- flags

unfoldable pub flag_words : List ℕ → List ℕ → List ℕ
flag_words model flag = model ++ codes " raises the flag " ++ flag

unfoldable pub flag_text : List ℕ → List ℕ → List ℕ
flag_text model flag = heading (codes "p") (flag_words model flag)

abbrev pub result_flags : List ℕ → OutcomeResult → List ℕ
result_flags model (Refused refusal) = []
result_flags model (Evaluated e) = flat_map (flag_text model) e.flags

-- the flags that each model raises
abbrev pub flags_text : List ReportedModel → List Outcome → List ℕ
flags_text [] outcomes = []
flags_text (m ∷ models) [] = []
flags_text (m ∷ models) (o ∷ outcomes) =
    result_flags m.name o.result ++ flags_text models outcomes

-- ---- a test

unfoldable pub condition_part : List ℕ → List ℕ
condition_part condition =
    element (codes "p") []
    (escaped (codes "Condition ") ++ element (codes "code") [] (escaped condition))

-- the condition is that of the test, whatever the model
abbrev pub first_condition : List Outcome → List ℕ
first_condition [] = []
first_condition (o ∷ outcomes) = condition_part o.condition

unfoldable pub text_part : List ℕ → List ℕ
text_part text =
    element (codes "div") []
    (heading (codes "h3") (codes "Text") ++ element (codes "pre") [] (escaped text))

unfoldable pub two_parts : List ReportedModel → ReportedTest → (groups firsts : List ℕ) → List ℕ
two_parts models t groups firsts =
    element (codes "div") (class_of (codes "two"))
    (text_part t.text ++ states_part models groups firsts t.outcomes)

unfoldable pub body_text : List ReportedModel → ReportedTest → (groups firsts : List ℕ) → List ℕ
body_text models t groups firsts =
    first_condition t.outcomes ++ two_parts models t groups firsts
    ++ flags_text models t.outcomes ++ figures models t.drawings

abbrev pub details_attributes : (class id name keys : List ℕ) → List Attribute
details_attributes class id name keys =
    (codes "class", class) ∷ (codes "id", id) ∷ (codes "data-n", name) ∷ (codes "data-k", keys)
    ∷ []

unfoldable pub details_class : List Outcome → (groups : List ℕ) → List ℕ
details_class outcomes groups = codes "t " ++ test_class outcomes (has_other groups)

-- what the filters, the links and the script look at
abbrev pub test_attributes : ℕ → ReportedTest → (groups : List ℕ) → List Attribute
test_attributes number t groups =
    details_attributes (details_class t.outcomes groups) (numbered (codes "t") number) t.name
    (keys_text groups)

unfoldable pub summary_text : List ReportedModel → ReportedTest → (groups firsts : List ℕ) → List ℕ
summary_text models t groups firsts =
    element (codes "summary") []
    (heading (codes "b") t.name ++ chips models groups firsts t.outcomes)

-- all of a test, by the groups of its outcomes
unfoldable pub test_in_groups : List ReportedModel → ℕ → ReportedTest → (groups firsts : List ℕ)
    → List ℕ
test_in_groups models number t groups firsts =
    element (codes "details") (test_attributes number t groups)
    (summary_text models t groups firsts
    ++ element (codes "div") (class_of (codes "body")) (body_text models t groups firsts))

abbrev pub grouped_test : List ReportedModel → ℕ → ReportedTest → (groups : List ℕ) → List ℕ
grouped_test models number t groups =
    test_in_groups models number t groups (firsts_from 0 groups)

-- the test of this number
abbrev pub test_details : List ReportedModel → ℕ → ReportedTest → List ℕ
test_details models number t = grouped_test models number t (groups_of t.outcomes)

-- tests, of which the first has this number, each on a line
abbrev pub tests_details : List ReportedModel → ℕ → List ReportedTest → List ℕ
tests_details models number [] = []
tests_details models number (t ∷ tests) =
    test_details models number t ++ codes "\n" ++ tests_details models (number + 1) tests
