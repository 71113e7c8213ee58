-- Laws of what evaluating from nothing gives: `laws` proves them. The relation itself is in
-- specs/FromScratch.
use Rattle.std.specs.Prelude.{◌≡◌, ℕ, ◌<◌, List, length}
use denote.Ref.{Bor}
use Rattle.text_values.specs.declared.test.Test.{Test}
use Rattle.bit_rows.specs.Relation.{Relation}
use Rattle.text_values.specs.declared.model.ModelText.{ModelText}
use Rattle.binding_kinds.specs.declared.fault.ModelFault.{ModelFault}
use Rattle.binding_graph.specs.Trees.{RelTree}
use Rattle.candidate_spaces.specs.Space.{Candidate}
use Rattle.cat_machine.specs.declared.column.Column.{Column}
use Rattle.cat_machine.specs.Executions.{events_of, EventsAt, PairsAt}
use Rattle.cat_machine.specs.Least.{IsLeast, AreMonotone}
use Rattle.cat_machine.specs.Named.{OwnPairs}
use Rattle.outcome_states.specs.declared.answer.Outcome.{Outcome}
use Rattle.outcome_states.specs.declared.answer.OutcomeResult.TheVariants.{Refused}
use Rattle.outcome_states.specs.declared.answer.Refusal.TheVariants as refusals
use Rattle.from_scratch.specs.FromScratch.{IsFaultOf, IsFaultless, IsFromScratch}

-- a model has one first fault, or none
pub record HasOneModelFault (model : ModelText) : Type 0 where
  pub one : (k l : ModelFault) → IsFaultOf model k → IsFaultOf model l → k ≡ l
  pub or_none : (k : ModelFault) → IsFaultOf model k → IsFaultless model → ⊥

-- a model with a fault has one outcome with a test
abbrev pub HasOneModelRefusal : Test → ModelText → Type 0
HasOneModelRefusal test model =
    (o p : Outcome) (k : ModelFault) → IsFromScratch test model o → IsFromScratch test model p
    → o.result ≡ Refused (refusals.Model k)
    → (p.kind ≡ o.kind) × (p.condition ≡ o.condition) × (p.result ≡ o.result)

-- in the candidate of that number, where the names of other items have these columns, any two lists
-- of least values have the same pairs
abbrev pub HasOneLeast : Candidate → List (Bor Column) → ℕ → List RelTree → Type 0
HasOneLeast one inputs index trees =
    (values others : List Relation) → AreMonotone trees
    → IsLeast (events_of one) (EventsAt (events_of one) one inputs index)
    (PairsAt (events_of one) one inputs index) trees values
    → IsLeast (events_of one) (EventsAt (events_of one) one inputs index)
    (PairsAt (events_of one) one inputs index) trees others
    → (x : ℕ) → x < length trees → (a b : ℕ) → OwnPairs (events_of one) values x a b
    → OwnPairs (events_of one) others x a b
