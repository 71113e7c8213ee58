-- When what the nodes under a verdict hold is solved: each of them gives, from the present texts
-- and from the values of the nodes that it uses, just what it holds.
use Rattle.std.specs.Prelude.{◌≡◌, ℕ, suc, List, [], ◌∷◌, ◌++◌, Bool, true, false, if◌then◌else◌, Option, Some, None, slice_get}
use Rattle.std.specs.List.{AllZip, AllByRecursion as Each}
use Rattle.text_values.specs.declared.test.Test.{Test}
use Rattle.text_values.specs.declared.model.ModelText.{ModelText}
use Rattle.binding_kinds.specs.declared.fault.ModelFault.{ModelFault}
use Rattle.binding_kinds.specs.declared.scope.Input.{Input}
use Rattle.binding_graph.specs.declared.resolved.ResolvedItem.{ResolvedItem}
use Rattle.binding_graph.specs.declared.resolved.Role.{Role}
use Rattle.binding_graph.specs.declared.resolved.Role.TheVariants as roles
use Rattle.binding_graph.specs.Reach.{is_check, IsCheckAt}
use Rattle.outcome_states.specs.declared.answer.Outcome.{Outcome}
use Rattle.binding_shapes.specs.Shapes.{role_shape}
use Rattle.bench_values.specs.Givens.{asked, faulted, ForSpace, ForVerdict, ForFault}
use Rattle.bench_items.specs.Items.{role_content}
use Rattle.bench_values.specs.Makes.{ItemMakes, Makes}
use Rattle.bench_values.specs.Parts.{SpacePartsContent, HasParts}
use Rattle.bench_values.specs.Values.{NodeContent, OfOutcome}
use Rattle.from_scratch.specs.FromScratch.{IsFaultOf, IsFaultless, AreItemsOf}

-- what the nodes under a verdict hold: the value of the space, and the outputs of the item at each
-- index
pub record Table : Type 0 where
  pub space : NodeContent
  pub outputs : ℕ → List NodeContent

-- the value of a name is that at its position among the outputs of its item
abbrev pub IsValueOf : Table → Input → NodeContent → Type 0
IsValueOf table name v = slice_get (table.outputs name.item) name.position ≡ Some v

-- from the value of the space and those of the names that it uses, in their order, the item gives
-- its outputs
abbrev pub IsSolvedItem : Table → ℕ → ResolvedItem → Type 0
IsSolvedItem table index r =
    (values : List NodeContent) × AllZip (IsValueOf table) r.inputs.items values
    × ItemMakes (role_shape (role_content r.role)) (table.space ∷ values) (table.outputs index)

-- groups, checks and flags are nodes; what has no value is none
abbrev pub is_node : Role → Bool
is_node (roles.Group recursive bodies) = true
is_node (roles.Check check) = true
is_node roles.Silent = false

abbrev pub flag_name : Role → Option (List ℕ)
flag_name (roles.Group recursive bodies) = None
flag_name (roles.Check check) = check.flag
flag_name roles.Silent = None

-- for each check and flag, in the order of the text, the name of the flag
abbrev pub flag_names : List ResolvedItem → List (Option (List ℕ))
flag_names [] = []
flag_names (r ∷ rs) = (if is_check r.role then flag_name r.role ∷ [] else []) ++ flag_names rs

-- the answers of the checks and flags among items from this index on, in the order of the text
abbrev pub answers_in : Table → ℕ → List ResolvedItem → List NodeContent
answers_in table index [] = []
answers_in table index (r ∷ rs) =
    (if is_check r.role then table.outputs index else []) ++ answers_in table (suc index) rs

-- a cell: the items of the model and which of them are needed, what the nodes under the verdict
-- hold, and the outcome
pub record SolvedCell : Type 0 where
  pub items : List ResolvedItem
  pub is_needed : ℕ → Bool
  pub table : Table
  pub outcome : Outcome

-- The items are those of the model, which has no fault. Checks and flags are needed, and with a
-- node the items whose names it uses. The space is that of the test's parts, or says why they have
-- none; each node that is needed gives its outputs; and from the space and the answers of checks
-- and flags the verdict gives the outcome.
pub record IsCellSolved (test : Test) (model : ModelText) (cell : SolvedCell) : Type 0 where
  pub no_fault : IsFaultless model
  pub of_model : AreItemsOf model cell.items
  pub checks : (index : ℕ) → IsCheckAt cell.items index → cell.is_needed index ≡ true
  pub names : (index : ℕ) (r : ResolvedItem) → cell.is_needed index ≡ true
      → slice_get cell.items index ≡ Some r → is_node r.role ≡ true
      → Each (λ name. cell.is_needed name.item ≡ true) r.inputs.items
  pub parts : SpacePartsContent
  pub of_test : HasParts parts test
  pub space : Makes (ForSpace parts) [] (cell.table.space ∷ [])
  pub items : (index : ℕ) (r : ResolvedItem) → cell.is_needed index ≡ true
      → slice_get cell.items index ≡ Some r → is_node r.role ≡ true
      → IsSolvedItem cell.table index r
  pub verdict : Makes
      (ForVerdict (asked test.condition test.observed.items (flag_names cell.items)))
      (cell.table.space ∷ answers_in cell.table 0 cell.items) (OfOutcome cell.outcome ∷ [])

-- the model has this fault first, of which alone the verdict gives the outcome
pub record IsSolvedFault (test : Test) (model : ModelText) (o : Outcome) : Type 0 where
  pub fault : ModelFault
  pub of_model : IsFaultOf model fault
  pub verdict : Makes (ForFault (faulted test.condition fault)) [] (OfOutcome o ∷ [])
