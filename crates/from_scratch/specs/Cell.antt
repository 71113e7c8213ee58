-- What a test says under a model.
use Rattle.std.specs.Prelude.{◌≡◌, Bool, List, reverse}
use Rattle.text_values.specs.declared.test.Test.{Test}
use Rattle.text_values.specs.TestValue.{formula_of}
use Rattle.litmus_printing.specs.Printing.{condition_text}
use Rattle.candidate_spaces.specs.Space.{shown_in}
use Rattle.candidate_spaces.specs.declared.candidate.Space.{Space}
use Rattle.candidates.specs.Listed.{ListsExecutions, IsSpaceRefusal}
use Rattle.binding_kinds.specs.declared.fault.ModelFault.{ModelFault}
use Rattle.binding_graph.specs.declared.resolved.ResolvedItem.{ResolvedItem}
use Rattle.verdict.specs.Evaluated.{IsEvaluation, IsOutcomeOn}
use Rattle.outcome_states.specs.declared.answer.Evaluation.{Evaluation}
use Rattle.outcome_states.specs.declared.answer.Outcome.{Outcome}
use Rattle.outcome_states.specs.declared.answer.OutcomeResult.{OutcomeResult}
use Rattle.outcome_states.specs.declared.answer.OutcomeResult.TheVariants.{Refused, Evaluated}
use Rattle.outcome_states.specs.declared.answer.Refusal.TheVariants as refusals
use Rattle.outcome_states.specs.Kept.{Flag}
use Rattle.from_scratch.specs.Answers.{AreSaid}

-- the evaluation of the test's condition on the candidates of a space, from these answers of checks
-- and flags
abbrev pub IsEvaluationFrom : Space → Test → List (List Bool) → List Flag → Evaluation → Type 0
IsEvaluationFrom space test checks flags e =
    IsEvaluation space.locations.items (shown_in space) test.condition.quantifier
    (formula_of test.condition.proposition) test.observed.items checks flags e

-- what the test says from these
abbrev pub IsOutcomeFrom : Space → Test → List (List Bool) → List Flag → Outcome → Type 0
IsOutcomeFrom space test checks flags o =
    IsOutcomeOn space.locations.items (shown_in space) test.condition.quantifier
    (formula_of test.condition.proposition) test.observed.items checks flags o

-- what the test says from some answers of checks and flags over the candidates of a space
abbrev pub IsSaidFromSome : Space → Test → Outcome → Type 0
IsSaidFromSome space test o =
    (checks : List (List Bool)) × (flags : List Flag) × IsOutcomeFrom space test checks flags o

-- a fault of the model, why the test has no space, or the evaluation of its condition from some
-- answers over its own space
abbrev pub IsResult : Test → OutcomeResult → Type 0
IsResult test (Refused (refusals.Model k)) = Unit {0}
IsResult test (Refused (refusals.Space r)) = IsSpaceRefusal test r
IsResult test (Evaluated e) =
    (space : Space) × ListsExecutions test space × (checks : List (List Bool)) × (flags : List Flag)
    × IsEvaluationFrom space test checks flags e

-- an outcome of the test: its condition as it is printed, and a result
pub record IsCell (test : Test) (o : Outcome) : Type 0 where
  pub kind : o.kind ≡ test.condition.quantifier
  pub text : o.condition
      ≡ condition_text test.condition.quantifier (formula_of test.condition.proposition)
  pub result : IsResult test o.result

-- the evaluation of the test on the candidates of a space, from what the checks and flags among the
-- items of a model answer there
abbrev pub IsEvaluationBy : List ResolvedItem → Space → Test → Evaluation → Type 0
IsEvaluationBy items space test e =
    (checks : List (List Bool)) × (flags : List Flag) × AreSaid space (reverse items) checks flags
    × IsEvaluationFrom space test checks flags e

-- likewise, on those of the test
abbrev pub IsEvaluationOver : List ResolvedItem → Test → Evaluation → Type 0
IsEvaluationOver items test e =
    (space : Space) × ListsExecutions test space × IsEvaluationBy items space test e

-- P for a fault of the model, otherwise Q, and R of an evaluation too
abbrev pub OfModel : (ModelFault → Type 0) → Type 0 → (Evaluation → Type 0) → OutcomeResult → Type 0
OfModel P Q R (Refused (refusals.Model k)) = P k
OfModel P Q R (Refused (refusals.Space r)) = Q
OfModel P Q R (Evaluated e) = Q × R e
