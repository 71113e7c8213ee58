-- Where two models tell the tests apart.
use Rattle.std.specs.Prelude.{ℕ, ◌==◌, ◌||◌, nat_eq, not, List, [], ◌∷◌, ◌++◌, Bool, true, false, length, map, filter, decimal, codes}
use Rattle.std.specs.Cmp.Lexicographic.{pointwise}
use Rattle.std.specs.List.{flat_map, list_any}
use Rattle.std.specs.declared.cmp.Ordering.{Ordering}
use Rattle.std.specs.declared.cmp.Ordering.TheVariants.{Less, Equal, Greater}
use Rattle.binding_kinds.specs.Numbers.{number as fault_number}
use Rattle.ppc_lowering.specs.Numbers.{number as refusal_number}
use Rattle.outcome_states.specs.declared.answer.CountedState.{CountedState}
use Rattle.outcome_states.specs.declared.answer.Evaluation.{Evaluation}
use Rattle.outcome_states.specs.declared.answer.OutcomeResult.{OutcomeResult}
use Rattle.outcome_states.specs.declared.answer.OutcomeResult.TheVariants.{Refused, Evaluated}
use Rattle.outcome_states.specs.declared.answer.Refusal.{Refusal}
use Rattle.outcome_states.specs.declared.answer.Refusal.TheVariants.{Model, Space}
use Rattle.outcome_states.specs.Order.{state_cmp}
use Rattle.outcome_texts.specs.declared.difference.TestPair.{TestPair}
use Rattle.outcome_texts.specs.Cells.{Cell, NoCell, Open, Settled, cell_of, cell_field}
use Rattle.outcome_texts.specs.Log.{line_end, flag_line}

-- ---- the states of two cells

-- a state, and its count in either cell: 0 in a cell that has no such state
pub record SharedState : Type 0 where
  pub text : List ℕ
  pub first : ℕ
  pub second : ℕ

abbrev pub of_first : CountedState → SharedState
of_first s = record { text = s.text; first = s.count; second = 0 }

abbrev pub of_second : CountedState → SharedState
of_second s = record { text = s.text; first = 0; second = s.count }

abbrev pub of_both : CountedState → CountedState → SharedState
of_both s t = record { text = s.text; first = s.count; second = t.count }

-- the lesser of two first states goes before the states behind it; two equal ones are one
abbrev pub by_order : Ordering → CountedState → CountedState → List SharedState → List SharedState
    → List SharedState → List SharedState
by_order Less s t behind_first behind_both behind_second = of_first s ∷ behind_first
by_order Equal s t behind_first behind_both behind_second = of_both s t ∷ behind_both
by_order Greater s t behind_first behind_both behind_second = of_second t ∷ behind_second

-- the states of two lists, each rising by its values, as one list that rises
abbrev pub merged : List CountedState → List CountedState → List SharedState
merged [] second = map of_second second
merged (s ∷ first) [] = map of_first (s ∷ first)
merged (s ∷ first) (t ∷ second) =
    by_order (state_cmp s.values t.values) s t (merged first (t ∷ second)) (merged first second)
    (merged (s ∷ first) second)

-- ---- the cells of a test

abbrev pub result_states : OutcomeResult → List CountedState
result_states (Refused refusal) = []
result_states (Evaluated e) = e.states

-- the states of a cell, none where it is open or refused
abbrev pub states_of : Cell → List CountedState
states_of NoCell = []
states_of Open = []
states_of (Settled o) = result_states o.result

abbrev pub shared_states : Cell → Cell → List SharedState
shared_states c d = merged (states_of c) (states_of d)

abbrev pub has_other_count : SharedState → Bool
has_other_count s = not (s.first == s.second)

abbrev pub is_same_refusal : Refusal → Refusal → Bool
is_same_refusal (Model f) (Model g) = fault_number f == fault_number g
is_same_refusal (Model f) (Space s) = false
is_same_refusal (Space r) (Model g) = false
is_same_refusal (Space r) (Space s) = refusal_number r == refusal_number s

abbrev pub flag_lines : Evaluation → List ℕ
flag_lines e = flat_map flag_line e.flags

-- whether a state's counts differ, or the flags
abbrev pub evaluations_differ : Evaluation → Evaluation → Bool
evaluations_differ e f =
    list_any has_other_count (merged e.states f.states)
    || not (pointwise nat_eq (flag_lines e) (flag_lines f))

-- whether two outcomes of a test differ
abbrev pub results_differ : OutcomeResult → OutcomeResult → Bool
results_differ (Refused r) (Refused s) = not (is_same_refusal r s)
results_differ (Refused r) (Evaluated f) = true
results_differ (Evaluated e) (Refused s) = true
results_differ (Evaluated e) (Evaluated f) = evaluations_differ e f

-- cells of unlike kinds differ, too
abbrev pub cells_differ : Cell → Cell → Bool
cells_differ NoCell NoCell = false
cells_differ NoCell Open = true
cells_differ NoCell (Settled p) = true
cells_differ Open NoCell = true
cells_differ Open Open = false
cells_differ Open (Settled p) = true
cells_differ (Settled o) NoCell = true
cells_differ (Settled o) Open = true
cells_differ (Settled o) (Settled p) = results_differ o.result p.result

-- ---- the text

-- a test's name, and its cells under the two models
pub record Pair : Type 0 where
  pub name : List ℕ
  pub first : Cell
  pub second : Cell

abbrev pub pair_of : TestPair → Pair
pair_of test =
    record { name = test.name.now; first = cell_of test.first; second = cell_of test.second }

abbrev pub is_told_apart : Pair → Bool
is_told_apart test = cells_differ test.first test.second

-- a state with its two counts, on a line
abbrev pub shared_line : SharedState → List ℕ
shared_line s =
    codes "  " ++ decimal s.first ++ codes " " ++ decimal s.second ++ codes " " ++ s.text
    ++ line_end

-- nothing where the counts are the same
abbrev pub state_difference : Bool → SharedState → List ℕ
state_difference true s = shared_line s
state_difference false s = []

abbrev pub state_differences : List SharedState → List ℕ
state_differences states = flat_map (λ s. state_difference (has_other_count s) s) states

abbrev pub pair_line : Pair → List ℕ
pair_line test =
    test.name ++ codes ": " ++ cell_field test.first ++ codes " / " ++ cell_field test.second
    ++ line_end

abbrev pub test_difference : Bool → Pair → List ℕ
test_difference true test =
    pair_line test ++ state_differences (shared_states test.first test.second)
test_difference false test = []

-- how many of so many tests are told apart
abbrev pub difference_line : ℕ → ℕ → List ℕ
difference_line some all = decimal some ++ codes " of " ++ decimal all ++ codes " differ\n"

abbrev pub differences_printed : List Pair → List ℕ
differences_printed tests =
    flat_map (λ t. test_difference (is_told_apart t) t) tests
    ++ difference_line (length (filter is_told_apart tests)) (length tests)
