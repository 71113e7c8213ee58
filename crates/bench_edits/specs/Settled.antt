-- The nodes of a cell among those of the core: what their jobs are given and which outputs they
-- use, and when a cell is settled.
use Rattle.std.specs.Prelude.{◌≡◌, ℕ, suc, List, [], ◌∷◌, ◌++◌, map, Bool, true, if◌then◌else◌, Some, slice_get}
use Rattle.std.specs.List.{AllByRecursion as Each}
use Rattle.text_values.specs.declared.test.Test.{Test}
use Rattle.text_values.specs.declared.model.ModelText.{ModelText}
use Rattle.binding_kinds.specs.declared.fault.ModelFault.{ModelFault}
use Rattle.binding_kinds.specs.declared.scope.Input.{Input}
use Rattle.binding_graph.specs.declared.resolved.ResolvedItem.{ResolvedItem}
use Rattle.binding_graph.specs.Reach.{is_check, IsCheckAt}
use Rattle.outcome_states.specs.declared.answer.Outcome.{Outcome}
use Rattle.memo_core.specs.declared.keys.Node.{Node}
use Rattle.memo_core.specs.declared.keys.Key.{Key}
use Rattle.memo_core.specs.declared.keys.Key.TheVariants.{Part, Output}
use Rattle.memo_core.specs.Graph.{Memo, Net, at, IsSettled}
use Rattle.memo_core.specs.Laws.{IsUsedClosed}
use Rattle.memo_core.specs.Right as core
use Rattle.memo_core.specs.Step.{Has}
use Rattle.binding_shapes.specs.Shapes.{role_shape}
use Rattle.bench_items.specs.Naming.{SeenName, item_outputs}
use Rattle.bench_values.specs.Givens.{GivenContent, asked, faulted, ForSpace, ForItem, ForVerdict, ForFault}
use Rattle.bench_items.specs.Items.{role_content}
use Rattle.bench_values.specs.Makes.{output_names}
use Rattle.bench_values.specs.Parts.{SpacePartsContent, HasParts}
use Rattle.bench_values.specs.Values.{NodeContent, OfOutcome}
use Rattle.bench_parts.specs.States.{makes}
use Rattle.from_scratch.specs.FromScratch.{IsFaultOf, IsFaultless, AreItemsOf}
use Rattle.bench_edits.specs.Solved.{is_node, flag_names}

-- the nodes of a cell: of an item by its index, with its history; and the number of a name that an
-- item uses
pub record CellNodes : Type 0 where
  pub space : Node
  pub item : ℕ → Node
  pub history : ℕ → List SeenName
  pub name : Input → ℕ
  pub verdict : Node

-- the outputs among some keys
abbrev pub outputs_of : List Key → List Key
outputs_of [] = []
outputs_of (Part part of ∷ ks) = outputs_of ks
outputs_of (Output n x ∷ ks) = Output n x ∷ outputs_of ks

-- a job of the node is given this alone, and uses these outputs
pub record IsNode (net : Net GivenContent) (n : Node) (given : GivenContent) (uses : List Key)
    : Type 0 where
  pub given_is : (g : GivenContent) → net.gives n g ≡ true → g ≡ given
  pub uses_are : outputs_of (net.inputs n) ≡ uses

-- the first outputs of the checks and flags among items from this index on
abbrev pub check_keys : CellNodes → ℕ → List ResolvedItem → List Key
check_keys nodes index [] = []
check_keys nodes index (r ∷ rs) =
    (if is_check r.role then Output (nodes.item index) 0 ∷ [] else [])
    ++ check_keys nodes (suc index) rs

-- no element stands twice
abbrev pub StandsOnce : {A : Type 0} → List A → Type 0
StandsOnce {A} xs = (p q : ℕ) (x : A) → slice_get xs p ≡ Some x → slice_get xs q ≡ Some x → p ≡ q

-- what the node of an item is given: what the item does, kinds left out, and the numbers by which its
-- outputs go
abbrev pub item_given : CellNodes → ℕ → ResolvedItem → GivenContent
item_given nodes index r =
    ForItem (role_shape (role_content r.role)) (item_outputs (role_content r.role) (nodes.history index))

abbrev pub name_output : CellNodes → Input → Key
name_output nodes name = Output (nodes.item name.item) (nodes.name name)

-- the number of the name is that of the output at the name's position
abbrev pub IsNumberOf : List ResolvedItem → CellNodes → Input → Type 0
IsNumberOf items nodes name =
    (r : ResolvedItem) × (slice_get items name.item ≡ Some r)
    × (slice_get (output_names (item_given nodes name.item r)) name.position
    ≡ Some (nodes.name name))

-- The nodes are those of the test under the items. Checks and flags are used, and with an item
-- those whose names it uses; other items need no node.
pub record AreNodesOf (net : Net GivenContent) (test : Test) (items : List ResolvedItem)
    (nodes : CellNodes) : Type 0 where
  pub parts : SpacePartsContent
  pub of_test : HasParts parts test
  pub space : IsNode net nodes.space (ForSpace parts) []
  pub is_used : ℕ → Bool
  pub checks : (index : ℕ) → IsCheckAt items index → is_used index ≡ true
  pub names : (index : ℕ) (r : ResolvedItem) → is_used index ≡ true → slice_get items index ≡ Some r
      → is_node r.role ≡ true → Each (λ name. is_used name.item ≡ true) r.inputs.items
  pub numbers : (index : ℕ) (r : ResolvedItem) → is_used index ≡ true
      → slice_get items index ≡ Some r → is_node r.role ≡ true
      → Each (IsNumberOf items nodes) r.inputs.items
  pub once : (index : ℕ) (r : ResolvedItem) → is_used index ≡ true → slice_get items index ≡ Some r
      → is_node r.role ≡ true → StandsOnce (output_names (item_given nodes index r))
  pub item : (index : ℕ) (r : ResolvedItem) → is_used index ≡ true → slice_get items index ≡ Some r
      → is_node r.role ≡ true
      → IsNode net (nodes.item index) (item_given nodes index r) (Output nodes.space 0
      ∷ map (name_output nodes) r.inputs.items)
  pub verdict : IsNode net nodes.verdict
      (ForVerdict (asked test.condition test.observed.items (flag_names items)))
      (Output nodes.space 0 ∷ check_keys nodes 0 items)

-- each settled node that cells use holds what is made of what its job is given now and of the
-- present values of its present inputs, and cells use the nodes that it uses
pub record AreNodesSolved (net : Net GivenContent) (memos : List (Memo NodeContent)) : Type 0 where
  pub solved : (n : Node) → Has net.used n → IsSettled net memos n
      → core.IsSolvedNode makes net memos n
  pub closed : IsUsedClosed net

-- the node is used and settled, and its first output is this outcome
pub record CarriesOutcome (net : Net GivenContent) (memos : List (Memo NodeContent)) (n : Node)
    (o : Outcome) : Type 0 where
  pub used : Has net.used n
  pub settled : IsSettled net memos n
  pub stamp : ℕ
  pub first : at memos (Output n 0) ≡ Some (stamp, OfOutcome o)

-- the verdict of the test under the model, which has no fault, is settled with this outcome
pub record IsSettledVerdict (test : Test) (model : ModelText) (net : Net GivenContent)
    (memos : List (Memo NodeContent)) (o : Outcome) : Type 0 where
  pub items : List ResolvedItem
  pub no_fault : IsFaultless model
  pub of_model : AreItemsOf model items
  pub nodes : CellNodes
  pub are_nodes : AreNodesOf net test items nodes
  pub carries : CarriesOutcome net memos nodes.verdict o

-- the verdict of the test under the model, which has this fault first, is settled with this outcome
pub record IsSettledFault (test : Test) (model : ModelText) (net : Net GivenContent)
    (memos : List (Memo NodeContent)) (o : Outcome) : Type 0 where
  pub fault : ModelFault
  pub of_model : IsFaultOf model fault
  pub verdict : Node
  pub is_verdict : IsNode net verdict (ForFault (faulted test.condition fault)) []
  pub carries : CarriesOutcome net memos verdict o
