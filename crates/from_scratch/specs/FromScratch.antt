-- What a test says under a model, evaluated from nothing: `eval_cell` gives it. Read before it, in
-- this order: the first fault (binding_kinds, specs/Faults), the items (binding_graph,
-- specs/Resolved), the executions (candidates, specs/Executions and Listed), the answers of checks
-- and flags (specs/Answers), states, counts and words (verdict, specs/Evaluated).
use Rattle.std.specs.Prelude.{◌≡◌, List, [], map}
use Rattle.text_values.specs.declared.test.Test.{Test}
use Rattle.text_values.specs.TestValue.{formula_of}
use Rattle.litmus_printing.specs.Printing.{condition_text}
use Rattle.candidate_spaces.specs.declared.candidate.Space.{Space}
use Rattle.candidates.specs.Listed.{ListsExecutions, IsSpaceRefusal}
use Rattle.text_values.specs.declared.model.ModelText.{ModelText}
use Rattle.binding_kinds.specs.declared.fault.ModelFault.{ModelFault}
use Rattle.binding_kinds.specs.Faults.{HasNoFault, FirstFault}
use Rattle.binding_kinds.specs.Outermost.{outermost_names}
use Rattle.binding_kinds.specs.Value.{BareItem, bare_item}
use Rattle.binding_graph.specs.declared.resolved.ResolvedItem.{ResolvedItem}
use Rattle.binding_graph.specs.Resolved.{AreResolved, AreLabelledAs}
use Rattle.outcome_states.specs.declared.answer.Evaluation.{Evaluation}
use Rattle.outcome_states.specs.declared.answer.Outcome.{Outcome}
use Rattle.outcome_states.specs.declared.answer.OutcomeResult.{OutcomeResult}
use Rattle.outcome_states.specs.declared.answer.OutcomeResult.TheVariants.{Refused, Evaluated}
use Rattle.outcome_states.specs.declared.answer.Refusal.TheVariants as refusals
use Rattle.from_scratch.specs.Cell.{IsEvaluationBy}

abbrev pub bare_items : ModelText → List BareItem
bare_items model = map bare_item model.items.items

-- the model has this fault as its first
abbrev pub IsFaultOf : ModelText → ModelFault → Type 0
IsFaultOf model k = FirstFault [] outermost_names 0 (bare_items model) k

abbrev pub IsFaultless : ModelText → Type 0
IsFaultless model = HasNoFault [] outermost_names 0 (bare_items model)

-- the items of the model with their names resolved, their checks negated and their flags named as
-- in the text
abbrev pub AreItemsOf : ModelText → List ResolvedItem → Type 0
AreItemsOf model items =
    AreResolved [] [] outermost_names 0 (bare_items model) items × AreLabelledAs model.items.items items

-- the evaluation of the test's condition on its candidates that the checks of the model keep
abbrev pub IsEvaluationOf : Test → ModelText → Evaluation → Type 0
IsEvaluationOf test model e =
    (items : List ResolvedItem) × AreItemsOf model items × (space : Space)
    × ListsExecutions test space × IsEvaluationBy items space test e

-- the first fault of the model; where it has none, why the test has no candidates; and else the
-- evaluation
abbrev pub IsResultOf : Test → ModelText → OutcomeResult → Type 0
IsResultOf test model (Refused (refusals.Model k)) = IsFaultOf model k
IsResultOf test model (Refused (refusals.Space r)) = IsFaultless model × IsSpaceRefusal test r
IsResultOf test model (Evaluated e) = IsFaultless model × IsEvaluationOf test model e

-- the outcome: the kind of the test's condition, the condition as it is printed, and that result
pub record IsFromScratch (test : Test) (model : ModelText) (o : Outcome) : Type 0 where
  pub kind : o.kind ≡ test.condition.quantifier
  pub condition : o.condition
      ≡ condition_text test.condition.quantifier (formula_of test.condition.proposition)
  pub result : IsResultOf test model o.result
