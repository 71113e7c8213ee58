-- What the numbers of kept candidates say of a condition.
use Rattle.std.specs.Prelude.{◌≡◌, ℕ, Bool, true, false, not, List, sum_by, ◌==◌, nat_lt, if◌then◌else◌}
use Rattle.text_values.specs.declared.test.Quantifier.{Quantifier}
use Rattle.text_values.specs.declared.test.Quantifier.TheVariants.{Exists, NotExists, Forall}
use Rattle.outcome_states.specs.declared.answer.CountedState.{CountedState}
use Rattle.outcome_states.specs.declared.answer.Evaluation.{Evaluation}
use Rattle.outcome_states.specs.declared.answer.Observation.{Observation}
use Rattle.outcome_states.specs.declared.answer.Observation.TheVariants.{Never, Sometimes, Always}
use Rattle.outcome_states.specs.declared.answer.Outcome.{Outcome}
use Rattle.outcome_states.specs.declared.answer.OutcomeResult.{OutcomeResult}
use Rattle.outcome_states.specs.declared.answer.OutcomeResult.TheVariants.{Refused, Evaluated}

-- whether two truth values are the same
abbrev pub is_same_truth : Bool → Bool → Bool
is_same_truth true b = b
is_same_truth false b = not b

-- how many kept candidates end in the states that pass a test
abbrev pub total_of : (CountedState → Bool) → List CountedState → ℕ
total_of test states = sum_by (λ s. if test s then s.count else 0) states

-- of so many kept candidates that satisfy the proposition, and so many that do not
abbrev pub observation_of : ℕ → ℕ → Observation
observation_of positive negative =
    if positive == 0 then Never else (if negative == 0 then Always else Sometimes)

-- whether a condition is met
abbrev pub is_met : Quantifier → ℕ → ℕ → Bool
is_met Exists positive negative = nat_lt 0 positive
is_met NotExists positive negative = positive == 0
is_met Forall positive negative = negative == 0

-- the words follow from the numbers
abbrev pub IsJudged : Quantifier → Evaluation → Type 0
IsJudged kind e =
    (e.observation ≡ observation_of e.positive e.negative)
    × (e.ok ≡ is_met kind e.positive e.negative)

-- an evaluation, and no refusal
abbrev pub IsEvaluated : Quantifier → OutcomeResult → Type 0
IsEvaluated kind (Refused _) = ⊥
IsEvaluated kind (Evaluated e) = IsJudged kind e

-- an evaluation of a test of this kind
abbrev pub IsOutcomeOf : Quantifier → Outcome → Type 0
IsOutcomeOf kind o = (o.kind ≡ kind) × IsEvaluated kind o.result
