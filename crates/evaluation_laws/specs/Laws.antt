-- Laws of what evaluating from nothing gives, each the contract of a call of this crate. Read
-- `FromScratch` of from_scratch first.
use Rattle.std.specs.Prelude.{◌≡◌, Bool, true, false, List, [], map}
use Rattle.std.specs.List.{AllByRecursion}
use denote.Ref.{Bor}
use Rattle.text_values.specs.declared.test.Test.{Test}
use Rattle.text_values.specs.declared.model.ModelText.{ModelText}
use Rattle.binding_kinds.specs.declared.kinds.Kind.{Kind}
use Rattle.binding_kinds.specs.declared.kinds.Kind.TheVariants as kinds
use Rattle.binding_graph.specs.declared.resolved.Body.{Body}
use Rattle.binding_graph.specs.declared.resolved.ResolvedItem.{ResolvedItem}
use Rattle.binding_graph.specs.declared.resolved.Role.{Role}
use Rattle.binding_graph.specs.declared.resolved.Role.TheVariants as roles
use Rattle.binding_graph.specs.declared.resolved.Step.{Step}
use Rattle.binding_graph.specs.Trees.{SetTree, RelTree, set_code, rel_code}
use Rattle.candidate_spaces.specs.declared.candidate.Space.{Space}
use Rattle.cat_machine.specs.declared.column.Column.{Column}
use Rattle.cat_machine.specs.Columns.{ColumnsOf}
use Rattle.cat_machine.specs.Values.{AnswersOf}
use Rattle.order_growth.specs.Items.{item_content}
use Rattle.outcome_states.specs.declared.answer.Outcome.{Outcome}
use Rattle.from_scratch.specs.Answers.{AreRisingBodies}
use Rattle.from_scratch.specs.FromScratch.{AreItemsOf, IsFaultless, IsFromScratch}

-- ---- items whose steps are those of expressions

-- the steps are those of a set, or of a relation
abbrev pub HasTree : Kind → List Step → Type 0
HasTree kinds.OfSet steps = (t : SetTree) × (steps ≡ set_code t [])
HasTree kinds.OfRelation steps = (t : RelTree) × (steps ≡ rel_code t [])
HasTree kinds.OfAny steps = (t : RelTree) × (steps ≡ rel_code t [])

-- the bodies of a recursive group are relations, and rise with its names
abbrev pub AreCoded : Bool → List Body → Type 0
AreCoded false bodies = AllByRecursion (λ b. HasTree b.code.kind b.code.steps.items) bodies
AreCoded true bodies =
    AreRisingBodies true bodies × AllByRecursion (λ b. b.code.kind ≡ kinds.OfSet → ⊥) bodies

abbrev pub IsCoded : Role → Type 0
IsCoded (roles.Group recursive bodies) = AreCoded recursive bodies.items
IsCoded (roles.Check check) = HasTree check.code.kind check.code.steps.items
IsCoded roles.Silent = Unit {0}

-- ---- laws

-- the columns of an item are one, given those of its inputs
abbrev pub HasOneColumns : Role → Space → Type 0
HasOneColumns role space =
    (inputs : List (Bor Column)) (cs ds : List Column) → IsCoded role
    → ColumnsOf role inputs space cs → ColumnsOf role inputs space ds → cs ≡ ds

-- the answers of a check are one, given the columns of its inputs
abbrev pub HasOneAnswers : Role → Space → Type 0
HasOneAnswers role space =
    (inputs : List (Bor Column)) (xs ys : List Bool) → IsCoded role → AnswersOf role inputs space xs
    → AnswersOf role inputs space ys → xs ≡ ys

-- a model is resolved to items of one content
abbrev pub HasOneResolution : ModelText → Type 0
HasOneResolution model =
    (items others : List ResolvedItem) → AreItemsOf model items → AreItemsOf model others
    → map item_content items ≡ map item_content others

-- the steps of a model without fault are those of expressions
abbrev pub HasCodedItems : ModelText → Type 0
HasCodedItems model =
    (items : List ResolvedItem) → IsFaultless model → AreItemsOf model items
    → AllByRecursion (λ r. IsCoded r.role) items

-- a test has one outcome under a model
abbrev pub HasOneOutcomeFromScratch : Test → ModelText → Type 0
HasOneOutcomeFromScratch test model =
    (o p : Outcome) → IsFromScratch test model o → IsFromScratch test model p → o ≡ p
