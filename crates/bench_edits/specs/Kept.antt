-- What a bench keeps of its tests and models (`IsKeptState`), and the nodes of its cells. Read it
-- after bench_parts' specs/Built and `Settled`.
use Rattle.std.specs.Prelude.{◌≡◌, ⊤, ℕ, List, [], length, Option, Some, None, slice_get, AllPairs}
use Rattle.std.specs.List.{AllZip, AllByRecursion as Each}
use Rattle.text_values.specs.declared.test.Test.{Test}
use Rattle.ppc_lowering.specs.Lowering.{AreNamesOf, test_names}
use Rattle.memo_core.specs.declared.keys.Kind.{Kind}
use Rattle.memo_core.specs.declared.keys.Kind.TheVariants as kinds
use Rattle.memo_core.specs.declared.keys.Node.{Node}
use Rattle.memo_core.specs.Step.{Has}
use Rattle.binding_kinds.specs.declared.scope.Input.{Input}
use Rattle.binding_kinds.specs.Value.{BareItem}
use Rattle.binding_kinds.specs.Faults.{HasNoFault}
use Rattle.binding_graph.specs.declared.resolved.ResolvedItem.{ResolvedItem}
use Rattle.binding_graph.specs.declared.resolved.Role.{Role}
use Rattle.binding_graph.specs.declared.resolved.Role.TheVariants as roles
use Rattle.binding_graph.specs.Reach.{AreReached}
use Rattle.binding_graph.specs.Resolved.{AreResolved}
use Rattle.bench_nodes.specs.declared.table.TestRow.{TestRow}
use Rattle.bench_items.specs.Naming.{SeenName, number_in_history}
use Rattle.bench_slots.specs.Slots.{number_at, input_name}
use Rattle.bench_slots.specs.Tables.{ModelReading, Sound, Faulty}
use Rattle.binding_kinds.specs.Outermost.{outermost_names}
use Rattle.bench_parts.specs.Built.{IsBuilt}
use Rattle.bench_parts.specs.Contents.{PartsState}
use Rattle.bench_parts.specs.States.{net_in}
use Rattle.cells.specs.Cells.{StandsOn}
use Rattle.bench_edits.specs.Settled.{CellNodes}

-- ---- models

-- the text has no fault; the items are those of it, each with a number of its own, and these are
-- the indexes of those that checks and flags reach
pub record IsReadFrom (clauses : List BareItem) (numbers : List ℕ) (items : List ResolvedItem)
    (used : List ℕ) : Type 0 where
  pub no_fault : HasNoFault [] outermost_names 0 clauses
  pub resolved : AreResolved [] [] outermost_names 0 clauses items
  pub reached : AreReached items used
  pub numbered : length numbers ≡ length items
  pub apart : AllPairs (λ a b. a ≡ b → ⊥) numbers

-- a model without fault is read from some text
abbrev pub IsReadingOfText : ModelReading → Type 0
IsReadingOfText (Sound id numbers items used) =
    (clauses : List BareItem) × IsReadFrom clauses numbers items used
IsReadingOfText (Faulty id fault) = ⊤

abbrev pub id_in : ModelReading → ℕ
id_in (Sound id numbers items used) = id
id_in (Faulty id fault) = id

-- of the items that have nodes
abbrev pub numbers_in : ModelReading → List ℕ
numbers_in (Sound id numbers items used) = numbers
numbers_in (Faulty id fault) = []

-- two models have numbers of their own, and so have their items
pub record AreOther (m n : ModelReading) : Type 0 where
  pub ids : id_in m ≡ id_in n → ⊥
  pub numbers : (k : ℕ) → Has (numbers_in m) k → Has (numbers_in n) k → ⊥

-- ---- the whole

-- The state is that of its tests and of these models, which are read from their texts. All have
-- numbers of their own, and the locations of each test are those that it names.
pub record IsKeptState (s : PartsState) (models : List ModelReading) : Type 0 where
  pub built : IsBuilt s models
  pub read : Each IsReadingOfText models
  pub models_apart : AllPairs AreOther models
  pub tests_apart : AllPairs (λ a b. a.id ≡ b.id → ⊥) s.parts.table.tests.items
  pub locations : AllZip (λ t l. AreNamesOf (test_names t) l.items) s.tests s.parts.locations.items

-- the test stands at that index, with that row
pub record IsTestAt (s : PartsState) (index : ℕ) (row : TestRow) (test : Test) : Type 0 where
  pub row_is : slice_get s.parts.table.tests.items index ≡ Some row
  pub test_is : slice_get s.tests index ≡ Some test

-- ---- nodes

-- what is silent has no node
abbrev pub role_node_kind : Role → Kind
role_node_kind (roles.Group recursive bodies) = kinds.Group
role_node_kind (roles.Check check) = kinds.Check
role_node_kind roles.Silent = kinds.Group

abbrev pub role_node : ℕ → ℕ → Option ResolvedItem → Node
role_node test own None = record { kind = kinds.Group; test = test; of = own }
role_node test own (Some r) = record { kind = role_node_kind r.role; test = test; of = own }

-- the node of the item at an index, where it has one
abbrev pub item_node : ℕ → List ℕ → List ResolvedItem → ℕ → Node
item_node test numbers items index =
    role_node test (number_at numbers index) (slice_get items index)

abbrev pub space_node : ℕ → Node
space_node test = record { kind = kinds.Space; test = test; of = 0 }

abbrev pub verdict_node : ℕ → ℕ → Node
verdict_node test id = record { kind = kinds.Verdict; test = test; of = id }

-- the number of a name that an item uses, in the history of the name's item
abbrev pub name_number : (ℕ → List SeenName) → List ℕ → List ResolvedItem → Input → ℕ
name_number histories numbers items name =
    number_in_history (histories (number_at numbers name.item)) (input_name items name)

-- the nodes of a test under a model without fault, where items have these histories
abbrev pub nodes_of : (ℕ → List SeenName) → ℕ → ℕ → List ℕ → List ResolvedItem → CellNodes
nodes_of histories test id numbers items = record {
  space = space_node test;
  item = item_node test numbers items;
  history = λ index. histories (number_at numbers index);
  name = name_number histories numbers items;
  verdict = verdict_node test id;
}

-- the verdict of the node's test under one of the models stands on the node
pub record IsUnderVerdict (s : PartsState) (models : List ModelReading) (n : Node) : Type 0 where
  pub model : ModelReading
  pub there : Has models model
  pub stands : StandsOn (net_in s) (verdict_node n.test (id_in model)) n
