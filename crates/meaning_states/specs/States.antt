-- What an evaluation says of a test is what its kept executions say.
use Rattle.std.specs.Prelude.{List, [], map}
use Rattle.text_values.specs.declared.test.Test.{Test}
use Rattle.text_values.specs.declared.model.Item.{Item}
use Rattle.text_values.specs.ModelValue.{Clause}
use Rattle.text_values.specs.ModelValues.{clauses_of}
use Rattle.text_values.specs.TestValue.{Content, content_of}
use Rattle.binding_kinds.specs.Outermost.{outermost_names}
use Rattle.binding_kinds.specs.Value.{bare_item}
use Rattle.binding_graph.specs.declared.resolved.ResolvedItem.{ResolvedItem}
use Rattle.binding_graph.specs.Resolved.{AreResolved, AreLabelledAs}
use Rattle.candidate_spaces.specs.declared.candidate.Space.{Space}
use Rattle.candidates.specs.Listed.{ListsExecutions}
use Rattle.outcome_states.specs.declared.answer.Evaluation as program_evaluation
use Rattle.from_scratch.specs.Cell.{IsEvaluationBy}
use Rattle.meaning.specs.Names.{locations}
use Rattle.meaning.specs.Evaluates.{IsKept, MeetsFlag}
use Rattle.meaning.specs.Outcome.{Evaluation, Says}
use Rattle.meaning_items.specs.FunctionLaws.{AreFaultless}
use Rattle.meaning_laws.specs.Words.{IsTestOfWords}
use Rattle.meaning_states.specs.ByName.{evaluation_by_name}

-- The executions of the test that the items keep say this.
abbrev pub IsEvaluationSaid : Content → List Clause → Evaluation → Type 0
IsEvaluationSaid t items e = Says t items (IsKept t items) (MeetsFlag t items) e

-- So it is with what the items of a model without fault say over the space of a test.
abbrev pub EvaluationsAreMeant : Type 0
EvaluationsAreMeant =
    (t : Test) → IsTestOfWords (content_of t) → (s : Space) → ListsExecutions t s
    → (items : List Item) (resolved : List ResolvedItem) → AreFaultless items
    → AreResolved [] [] outermost_names 0 (map bare_item items) resolved
    → AreLabelledAs items resolved → (e : program_evaluation.Evaluation)
    → IsEvaluationBy resolved s t e
    → IsEvaluationSaid (content_of t) (clauses_of items) (evaluation_by_name (locations (content_of t)) e)
