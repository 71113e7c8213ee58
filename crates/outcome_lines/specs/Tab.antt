-- The lines of `--tab`: fields with a tab between two of them. A dash is a field that is not there.
use Rattle.std.specs.Prelude.{ℕ, List, [], ◌∷◌, ◌++◌, Bool, true, false, decimal, codes}
use Rattle.std.specs.List.{flat_map}
use Rattle.outcome_states.specs.declared.answer.Evaluation.{Evaluation}
use Rattle.outcome_states.specs.declared.answer.OutcomeResult.{OutcomeResult}
use Rattle.outcome_states.specs.declared.answer.OutcomeResult.TheVariants as results
use Rattle.outcome_texts.specs.Cells.{cell_field}
use Rattle.outcome_texts.specs.Differences.{Pair, SharedState, shared_states, has_other_count, is_told_apart}
use Rattle.outcome_texts.specs.Log.{line_end, observation_word, refusal_text}
use Rattle.escaped_texts.specs.Fields.{field_text}
use Rattle.outcome_lines.specs.Records.{Subject, TextRefusal, ModelOutcome, TestResult, Refused, Tested, pair_in}

abbrev pub tab : List ℕ
tab = 9 ∷ []

unfoldable pub two_fields : List ℕ → List ℕ → List ℕ
two_fields path test = field_text path ++ tab ++ field_text test

unfoldable pub subject_fields : Subject → List ℕ
subject_fields s = two_fields s.path s.test ++ tab ++ field_text s.model

-- the word of the observation and both counts, or the refusal
unfoldable pub observation_fields : Evaluation → List ℕ
observation_fields e =
    observation_word e.observation ++ tab ++ decimal e.positive ++ tab ++ decimal e.negative

abbrev pub result_fields : OutcomeResult → List ℕ
result_fields (results.Refused refusal) = refusal_text refusal ++ codes "\t-\t-"
result_fields (results.Evaluated e) = observation_fields e

unfoldable pub refused_line : TextRefusal → List ℕ
refused_line r =
    field_text r.path ++ codes "\t-\t-\t" ++ field_text r.rule ++ tab ++ decimal r.offset
    ++ codes "\t-\n"

-- ---- table

unfoldable pub result_line : Subject → OutcomeResult → List ℕ
result_line s result = subject_fields s ++ tab ++ result_fields result ++ line_end

abbrev pub outcome_line : List ℕ → List ℕ → ModelOutcome → List ℕ
outcome_line path test o =
    result_line (record { path = path; test = test; model = o.model }) o.outcome.result

abbrev pub tab_test_lines : TestResult → List ℕ
tab_test_lines (Refused refusal) = refused_line refusal
tab_test_lines (Tested path test outcomes) = flat_map (outcome_line path test) outcomes

abbrev pub tab_table_lines : List TestResult → List ℕ
tab_table_lines tests = flat_map tab_test_lines tests

-- ---- diff

unfoldable pub same_line : List ℕ → List ℕ → List ℕ
same_line path test = two_fields path test ++ codes "\tsame\n"

unfoldable pub differ_line : List ℕ → Pair → List ℕ
differ_line path p =
    two_fields path p.name ++ codes "\tdiffer\t" ++ cell_field p.first ++ tab
    ++ cell_field p.second ++ line_end

unfoldable pub counts_fields : ℕ → ℕ → List ℕ
counts_fields first second = codes "\tstate\t" ++ decimal first ++ tab ++ decimal second ++ tab

unfoldable pub counts_line : List ℕ → List ℕ → SharedState → List ℕ
counts_line path test s =
    two_fields path test ++ counts_fields s.first s.second ++ field_text s.text ++ line_end

-- nothing where the counts are the same
abbrev pub other_counts_line : List ℕ → List ℕ → Bool → SharedState → List ℕ
other_counts_line path test true s = counts_line path test s
other_counts_line path test false s = []

abbrev pub told_lines : List ℕ → Bool → Pair → List ℕ
told_lines path true p =
    differ_line path p
    ++ flat_map (λ s. other_counts_line path p.name (has_other_count s) s)
    (shared_states p.first p.second)
told_lines path false p = same_line path p.name

-- of the first two models
abbrev pub tab_pair_lines : TestResult → List ℕ
tab_pair_lines (Refused refusal) = refused_line refusal
tab_pair_lines (Tested path test outcomes) =
    told_lines path (is_told_apart (pair_in test outcomes)) (pair_in test outcomes)

abbrev pub tab_difference_lines : List TestResult → List ℕ
tab_difference_lines tests = flat_map tab_pair_lines tests
