-- What a cell has of its model (`HaveSameCells`), and an edit that leaves it (`LeavesWrittenCell`). Read
-- it after bench_parts' specs/Written and `Kept`.
use Rattle.std.specs.Prelude.{◌≡◌, ℕ, ◌<◌, true, List, length, map, Option, Some, option_map, slice_get}
use Rattle.text_values.specs.declared.model.Item.{Item}
use Rattle.text_values.specs.ModelValue.{Clause}
use Rattle.memo_core.specs.declared.keys.Node.{Node}
use Rattle.memo_core.specs.Right.{IsUntouchedBy}
use Rattle.memo_core.specs.Step.{Has}
use Rattle.binding_kinds.specs.declared.scope.Input.{Input}
use Rattle.binding_graph.specs.declared.resolved.ResolvedItem.{ResolvedItem}
use Rattle.bench_items.specs.Naming.{SeenName}
use Rattle.bench_items.specs.Items.{RoleContent, role_content}
use Rattle.bench_nodes.specs.Nodes.{used, has_test_row, space_keys}
use Rattle.bench_slots.specs.Slots.{number_at}
use Rattle.bench_slots.specs.Tables.{ModelReading, Sound, Faulty}
use Rattle.bench_slices.specs.Slices.{clause_at}
use Rattle.bench_parts.specs.Contents.{OfText, OfRole, PartsState, content}
use Rattle.bench_parts.specs.States.{keeps, net_in}
use Rattle.bench_parts.specs.Written.{WrittenModel, WrittenState, part_content, KeepsStamp, EqualPartsKeepStamps}
use Rattle.bench_edits.specs.Kept.{IsKeptState, id_in, numbers_in, verdict_node}

-- ---- what a cell has of its model

-- an item: its number, what it says and what it does, the functions that it applies by their
-- numbers, and the names that it uses, each by the number of its item and its position there
pub record CellItem : Type 0 where
  pub number : ℕ
  pub said : Option Clause
  pub role : RoleContent
  pub functions : List ℕ
  pub names : List (ℕ × ℕ)

abbrev pub name_of : List ℕ → Input → ℕ × ℕ
name_of numbers i = (number_at numbers i.item, i.position)

abbrev pub cell_item : List ℕ → ℕ → Option Clause → ResolvedItem → CellItem
cell_item numbers own said r = record {
  number = own;
  said = said;
  role = role_content r.role;
  functions = map (number_at numbers) r.functions.items;
  names = map (name_of numbers) r.inputs.items;
}

-- the item at an index, where there is one
abbrev pub item_at : List ℕ → List Item → List ResolvedItem → ℕ → Option CellItem
item_at numbers texts items i =
    option_map (cell_item numbers (number_at numbers i) (clause_at texts i)) (slice_get items i)

-- the items that checks and flags reach, in their order
abbrev pub cell_items : List ℕ → List Item → List ResolvedItem → List ℕ → List (Option CellItem)
cell_items numbers texts items used = map (item_at numbers texts items) used

-- two models of such items and readings give their cells the same items, or the same fault
abbrev pub AreReadAlike : List Item → ModelReading → List Item → ModelReading → Type 0
AreReadAlike texts (Sound id numbers items used) others (Sound jd ns is us) =
    (id ≡ jd) × (cell_items numbers texts items used ≡ cell_items ns others is us)
AreReadAlike texts (Sound id numbers items used) others (Faulty jd fault) = ⊥
AreReadAlike texts (Faulty id fault) others (Sound jd ns is us) = ⊥
AreReadAlike texts (Faulty id fault) others (Faulty jd other) = (id ≡ jd) × (fault ≡ other)

-- two models, read as one, give their cells the same items, or the same fault
abbrev pub HaveSameCells : WrittenModel → WrittenModel → Type 0
HaveSameCells m n = AreReadAlike m.items m.reading n.items n.reading

-- ---- what an edit leaves

-- an item that does what it did has the history that it had
abbrev pub EqualItemsKeepNames : PartsState → PartsState → Type 0
EqualItemsKeepNames s t =
    (of : ℕ) (role : RoleContent) (history names : List SeenName)
    → content s 0 of ≡ Some (OfRole role history) → content t 0 of ≡ Some (OfRole role names)
    → names ≡ history

-- the parts of the test have their stamps of before, and its space has the same inputs
pub record IsTestLeft (s t : PartsState) (test : ℕ) : Type 0 where
  pub stamps : (part : ℕ) → 1 < part → KeepsStamp s t part test
  pub inputs : space_keys t.parts.table.tests.items test ≡ space_keys s.parts.table.tests.items test

-- of the test a cell uses its condition alone where its model has a fault
abbrev pub IsLeftFor : ModelReading → PartsState → PartsState → ℕ → Type 0
IsLeftFor (Sound id numbers items used) s t test = IsTestLeft s t test
IsLeftFor (Faulty id fault) s t test = KeepsStamp s t 2 test

-- each used node may keep what it holds
abbrev pub MayNodesKeep : PartsState → Type 0
MayNodesKeep t = (n : Node) → Has (used t.parts.table) n → keeps t.parts n ≡ true

-- the part of the item of that number holds that it says this
abbrev pub HoldsText : WrittenState → ℕ → Option Clause → Type 0
HoldsText w number said =
    (clause : Clause) × (said ≡ Some clause) × (part_content w 0 number ≡ Some (OfText clause))

-- the model is there, kept as it is read, and the parts of its items hold what these say
pub record HoldsModel (w : WrittenState) (m : WrittenModel) : Type 0 where
  pub kept : IsKeptState w.state (map (λ x. x.reading) w.models)
  pub there : Has w.models m
  pub texts : (index : ℕ) → index < length (numbers_in m.reading)
      → HoldsText w (number_at (numbers_in m.reading) index) (clause_at m.items index)

-- The edit from `w` to `v` leaves the cell of a test under a model that is `m` before it and `n`
-- after it.
pub record LeavesWrittenCell (w v : WrittenState) (m n : WrittenModel) (test : ℕ) : Type 0 where
  pub before : HoldsModel w m
  pub after : HoldsModel v n
  pub same : HaveSameCells m n
  pub items : EqualPartsKeepStamps w v 0
  pub names : EqualItemsKeepNames w.state v.state
  pub faults : EqualPartsKeepStamps w v 1
  pub has_test : has_test_row v.state.parts.table.tests.items test ≡ true
  pub test_left : IsLeftFor m.reading w.state v.state test
  pub may_keep : MayNodesKeep v.state

-- the verdict is of the same node, and nothing that it stands on is touched
abbrev pub IsVerdictUntouched : WrittenState → WrittenState → WrittenModel → WrittenModel → ℕ
    → Type 0
IsVerdictUntouched w v m n test =
    (id_in n.reading ≡ id_in m.reading)
    × ((d : ℕ)
    → IsUntouchedBy d (keeps v.state.parts) (net_in w.state) (net_in v.state)
    (verdict_node test (id_in m.reading)))

abbrev pub LeftCellsAreUntouched : Type 0
LeftCellsAreUntouched =
    (w v : WrittenState) (m n : WrittenModel) (test : ℕ) → LeavesWrittenCell w v m n test
    → IsVerdictUntouched w v m n test

-- Likewise where it cannot be that the edit does not leave the cell.
abbrev pub UnreachedCellsAreUntouched : Type 0
UnreachedCellsAreUntouched =
    (w v : WrittenState) (m n : WrittenModel) (test : ℕ) → ((LeavesWrittenCell w v m n test → ⊥) → ⊥)
    → IsVerdictUntouched w v m n test
