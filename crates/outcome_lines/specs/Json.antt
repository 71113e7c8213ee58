-- The lines of `--json`: one object on a line, without blanks.
use Rattle.std.specs.Prelude.{ℕ, List, [], ◌∷◌, ◌++◌, ◌==◌, Bool, true, false, decimal, filter, map, codes}
use Rattle.std.specs.List.{flat_map, after_first}
use Rattle.text_values.specs.Joined.{joined}
use Rattle.text_values.specs.declared.test.Quantifier.{Quantifier}
use Rattle.text_values.specs.declared.test.Quantifier.TheVariants.{Exists, NotExists, Forall}
use Rattle.outcome_states.specs.declared.answer.CountedState.{CountedState}
use Rattle.outcome_states.specs.declared.answer.Evaluation.{Evaluation}
use Rattle.outcome_states.specs.declared.answer.Observation.{Observation}
use Rattle.outcome_states.specs.declared.answer.Outcome.{Outcome}
use Rattle.outcome_states.specs.declared.answer.OutcomeResult.{OutcomeResult}
use Rattle.outcome_states.specs.declared.answer.OutcomeResult.TheVariants as results
use Rattle.outcome_states.specs.declared.answer.Refusal.{Refusal}
use Rattle.outcome_texts.specs.Cells.{cell_field}
use Rattle.outcome_texts.specs.Differences.{Pair, SharedState, shared_states, has_other_count, is_told_apart}
use Rattle.outcome_texts.specs.Log.{observation_word, refusal_text}
use Rattle.escaped_texts.specs.Strings.{string_text}
use Rattle.outcome_lines.specs.Records.{Subject, TextRefusal, ModelOutcome, TestResult, Refused, Tested, model_at, pair_in}

unfoldable pub bool_text : Bool → List ℕ
bool_text true = codes "true"
bool_text false = codes "false"

-- values with commas between them, in brackets
unfoldable pub array_text : List (List ℕ) → List ℕ
array_text values = codes "[" ++ joined (codes ",") values ++ codes "]"

unfoldable pub path_front : List ℕ → List ℕ
path_front path = codes "{\"path\":" ++ string_text path

unfoldable pub test_front : List ℕ → List ℕ → List ℕ
test_front path test = path_front path ++ codes ",\"test\":" ++ string_text test

unfoldable pub subject_front : Subject → List ℕ
subject_front s = test_front s.path s.test ++ codes ",\"model\":" ++ string_text s.model

-- of the satisfying executions, and of the others
unfoldable pub number_members : ℕ → ℕ → List ℕ
number_members positive negative =
    codes ",\"positive\":" ++ decimal positive ++ codes ",\"negative\":" ++ decimal negative

unfoldable pub word_member : Observation → List ℕ
word_member o = codes ",\"observation\":" ++ string_text (observation_word o)

unfoldable pub observation_members : Evaluation → List ℕ
observation_members e = word_member e.observation ++ number_members e.positive e.negative

unfoldable pub refusal_member : List ℕ → List ℕ
refusal_member rule = codes ",\"refused\":" ++ string_text rule

unfoldable pub refused_line : TextRefusal → List ℕ
refused_line r =
    path_front r.path ++ refusal_member r.rule ++ codes ",\"offset\":" ++ decimal r.offset
    ++ codes ",\"line\":" ++ decimal r.line ++ codes ",\"column\":" ++ decimal r.column
    ++ codes "}\n"

-- ---- an outcome

unfoldable pub kind_text : Quantifier → List ℕ
kind_text Exists = codes "exists"
kind_text NotExists = codes "~exists"
kind_text Forall = codes "forall"

abbrev pub all_but_last : List ℕ → List ℕ
all_but_last [] = []
all_but_last (b ∷ []) = []
all_but_last (b ∷ c ∷ bs) = b ∷ all_but_last (c ∷ bs)

-- what stands in the parentheses of a printed condition
abbrev pub proposition_text : List ℕ → List ℕ
proposition_text condition = all_but_last (after_first (λ b. b == 40) condition)

unfoldable pub state_object : CountedState → List ℕ
state_object c =
    codes "{\"state\":" ++ string_text c.text ++ codes ",\"count\":" ++ decimal c.count
    ++ codes ",\"holds\":" ++ bool_text c.holds ++ codes "}"

unfoldable pub condition_members : Quantifier → List ℕ → List ℕ
condition_members kind condition =
    codes ",\"kind\":" ++ string_text (kind_text kind)
    ++ codes ",\"condition\":" ++ string_text (proposition_text condition)

unfoldable pub evaluation_members : Evaluation → List ℕ
evaluation_members e =
    codes ",\"ok\":" ++ bool_text e.ok ++ observation_members e
    ++ codes ",\"flags\":" ++ array_text (map string_text e.flags)
    ++ codes ",\"states\":" ++ array_text (map state_object e.states)

unfoldable pub refused_outcome_line : Subject → Refusal → List ℕ
refused_outcome_line s refusal =
    subject_front s ++ refusal_member (refusal_text refusal) ++ codes "}\n"

abbrev pub evaluated_line : Subject → Outcome → OutcomeResult → List ℕ
evaluated_line s o (results.Refused refusal) = refused_outcome_line s refusal
evaluated_line s o (results.Evaluated e) =
    subject_front s ++ condition_members o.kind o.condition ++ evaluation_members e ++ codes "}\n"

abbrev pub eval_lines : Subject → Outcome → List ℕ
eval_lines s o = evaluated_line s o o.result

-- ---- table

-- under each model the line of its outcome
abbrev pub outcome_line : List ℕ → List ℕ → ModelOutcome → List ℕ
outcome_line path test o =
    eval_lines (record { path = path; test = test; model = o.model }) o.outcome

abbrev pub json_test_lines : TestResult → List ℕ
json_test_lines (Refused refusal) = refused_line refusal
json_test_lines (Tested path test outcomes) = flat_map (outcome_line path test) outcomes

abbrev pub json_table_lines : List TestResult → List ℕ
json_table_lines tests = flat_map json_test_lines tests

-- ---- diff

unfoldable pub counts_member : ℕ → ℕ → List ℕ
counts_member first second =
    codes ",\"counts\":[" ++ decimal first ++ codes "," ++ decimal second ++ codes "]"

unfoldable pub counts_object : SharedState → List ℕ
counts_object s =
    codes "{\"state\":" ++ string_text s.text ++ counts_member s.first s.second ++ codes "}"

unfoldable pub pair_array : List ℕ → List ℕ → List ℕ
pair_array first second =
    codes "[" ++ string_text first ++ codes "," ++ string_text second ++ codes "]"

-- the states whose counts differ, where the cells do
abbrev pub told_states : Bool → Pair → List SharedState
told_states true p = filter has_other_count (shared_states p.first p.second)
told_states false p = []

unfoldable pub pair_line : List ℕ → List ℕ → List ℕ → Bool → Pair → List ℕ
pair_line first second path differ p =
    test_front path p.name ++ codes ",\"models\":" ++ pair_array first second
    ++ codes ",\"differ\":" ++ bool_text differ
    ++ codes ",\"fields\":" ++ pair_array (cell_field p.first) (cell_field p.second)
    ++ codes ",\"states\":" ++ array_text (map counts_object (told_states differ p)) ++ codes "}\n"

-- of the first two models
abbrev pub json_pair_lines : TestResult → List ℕ
json_pair_lines (Refused refusal) = refused_line refusal
json_pair_lines (Tested path test outcomes) =
    pair_line (model_at outcomes 0) (model_at outcomes 1) path
    (is_told_apart (pair_in test outcomes)) (pair_in test outcomes)

abbrev pub json_difference_lines : List TestResult → List ℕ
json_difference_lines tests = flat_map json_pair_lines tests
