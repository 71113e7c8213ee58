-- What the kept executions of a test say: final states, counts and words.
use Rattle.std.specs.Prelude.{ℕ, ◌≡◌, ◌<◌, ◌-◌, ◌^◌, min, not, Bool, List, Vec, map, filter, length, ◌++◌}
use Rattle.std.specs.List.{All, Contains}
use Rattle.std.specs.List.Sorted.{IsStrictlySortedBy}
use Rattle.std.specs.declared.alloc.Global.{Global}
use Rattle.text_values.specs.declared.test.Quantifier.{Quantifier}
use Rattle.text_values.specs.declared.test.Place.{Place}
use Rattle.text_values.specs.TestValue.{Formula}
use Rattle.litmus_printing.specs.Printing.{condition_text}
use Rattle.candidate_spaces.specs.Space.{Shown}
use Rattle.outcome_states.specs.declared.answer.CountedState.{CountedState}
use Rattle.outcome_states.specs.declared.answer.Evaluation.{Evaluation}
use Rattle.outcome_states.specs.declared.answer.FinalValue.{FinalValue}
use Rattle.outcome_states.specs.declared.answer.Outcome.{Outcome}
use Rattle.outcome_states.specs.declared.answer.OutcomeResult.{OutcomeResult}
use Rattle.outcome_states.specs.declared.answer.OutcomeResult.TheVariants.{Refused, Evaluated}
use Rattle.outcome_states.specs.declared.formula.Formula as code
use Rattle.outcome_states.specs.declared.observable.Observable.{Observable}
use Rattle.outcome_states.specs.Compiled.{value_of, Compiles}
use Rattle.outcome_states.specs.Counting.{count_kept, tally, AreAbove, pairs_of, pairs_in}
use Rattle.outcome_states.specs.Final.{final_value, final_state}
use Rattle.verdict.specs.Judgement.{IsJudged}
use Rattle.outcome_states.specs.Kept.{kept, Flag, raised_names}
use Rattle.outcome_states.specs.Meaning.{satisfies, observables_of}
use Rattle.outcome_states.specs.Order.{state_cmp, is_state}
use Rattle.outcome_states.specs.Shown.{AreShown}
use Rattle.outcome_states.specs.Text.{state_text}

-- how many of these executions pass a test
abbrev pub number_that : {X : Type 0} → (X → Bool) → List (ℕ × X) → ℕ
number_that test candidates = length (filter (λ x. test x.1) candidates)

-- whether what the observables hold where the execution ends satisfies the proposition
abbrev pub is_satisfied : List (List ℕ) → Formula → Shown → Bool
is_satisfied locations proposition e = satisfies locations (final_value e) proposition

abbrev pub values_of : List CountedState → List (List FinalValue)
values_of states = map (λ s. s.values) states

-- a state over these observables has its text, and the answer of a proposition over observables of
-- a state
abbrev pub IsWorded : List (List ℕ) → List Observable → code.Formula → CountedState → Type 0
IsWorded locations shown f s =
    (s.text ≡ state_text locations shown s.values) × (s.holds ≡ value_of s.values f)

-- the states in which those of the executions end that are kept, over observables that show those
-- of the proposition and the observed ones
pub record AreEndStates (locations : List (List ℕ)) (executions : List Shown)
    (proposition : Formula) (observed : List Place) (keep : List Bool) (states : List CountedState)
    : Type 0 where
  pub shown : List Observable
  pub compiled : code.Formula
  pub entries : List (Vec FinalValue Global × ℕ)
  pub are_shown : AreShown locations (observables_of proposition ++ observed) shown
  pub means : Compiles locations shown proposition compiled
  pub tallies : (v : List FinalValue)
      → tally entries v
      ≡ min (count_kept (λ e. is_state v (final_state shown e)) keep executions) (2 ^ 64 - 1)
  pub above : AreAbove entries
  pub counts : pairs_of states ≡ pairs_in entries
  pub rising : IsStrictlySortedBy state_cmp (values_of states)
  pub words : All (IsWorded locations shown compiled) states

-- a state over these observables in which some of the executions end: its text, their number, and
-- whether the proposition holds
pub record IsStateOf (locations : List (List ℕ)) (proposition : Formula) (shown : List Observable)
    (candidates : List (ℕ × Shown)) (s : CountedState) : Type 0 where
  pub text : s.text ≡ state_text locations shown s.values
  pub count : s.count ≡ number_that (λ x. is_state s.values (final_state shown x)) candidates
  pub above : 0 < s.count
  pub holds : (content : Observable → FinalValue) → s.values ≡ map content shown
      → s.holds ≡ satisfies locations content proposition

-- the evaluation says this of these executions over these observables
pub record Says (locations : List (List ℕ)) (kind : Quantifier) (proposition : Formula)
    (shown : List Observable) (candidates : List (ℕ × Shown)) (flags : List Flag) (e : Evaluation)
    : Type 0 where
  pub rising : IsStrictlySortedBy state_cmp (values_of e.states)
  pub states : All (IsStateOf locations proposition shown candidates) e.states
  pub ended : All (λ x. Contains (values_of e.states) (final_state shown x.1)) candidates
  pub positive : e.positive ≡ number_that (is_satisfied locations proposition) candidates
  pub negative : e.negative
      ≡ number_that (λ x. not (is_satisfied locations proposition x)) candidates
  pub names : e.flags ≡ raised_names candidates flags
  pub judged : IsJudged kind e

-- the evaluation of a condition on the executions that the checks keep: its states show the
-- observables of the proposition and the observed ones
abbrev pub IsEvaluation : List (List ℕ) → List Shown → Quantifier → Formula → List Place
    → List (List Bool) → List Flag → Evaluation → Type 0
IsEvaluation locations executions kind proposition observed checks flags e =
    (shown : List Observable) × AreShown locations (observables_of proposition ++ observed) shown
    × Says locations kind proposition shown (kept checks executions) flags e

abbrev pub IsEvaluatedAs : (Evaluation → Type 0) → OutcomeResult → Type 0
IsEvaluatedAs P (Refused _) = ⊥
IsEvaluatedAs P (Evaluated e) = P e

-- the outcome of a condition of this kind on these executions: the condition as it is printed, and
-- its evaluation
pub record IsOutcomeOn (locations : List (List ℕ)) (executions : List Shown) (kind : Quantifier)
    (proposition : Formula) (observed : List Place) (checks : List (List Bool)) (flags : List Flag)
    (o : Outcome) : Type 0 where
  pub kind_is : o.kind ≡ kind
  pub text : o.condition ≡ condition_text kind proposition
  pub result : IsEvaluatedAs
      (IsEvaluation locations executions kind proposition observed checks flags) o.result
