-- What a state is built of: its tests, and its models as they are read. Read it after States; the
-- law `built_states_are_valid` says that such a state is valid.
use Rattle.std.specs.Prelude.{◌≡◌, ℕ, ◌<◌, ◌≤◌, List, [], ◌∷◌, length, map, Vec, Option, Some, None, slice_get}
use Rattle.std.specs.declared.alloc.Global.{Global}
use Rattle.std.specs.List.{AllZip, AllByRecursion as Each}
use Rattle.text_values.specs.declared.test.Test.{Test}
use Rattle.binding_kinds.specs.declared.fault.ModelFault.{ModelFault}
use Rattle.binding_graph.specs.declared.resolved.ResolvedItem.{ResolvedItem}
use Rattle.bench_items.specs.declared.items.SharedItem.{SharedItem}
use Rattle.bench_items.specs.Items.{RoleContent, role_content}
use Rattle.bench_items.specs.Naming.{SeenName}
use Rattle.bench_nodes.specs.declared.table.ItemRow.{ItemRow}
use Rattle.bench_nodes.specs.declared.table.ModelRow.{ModelRow}
use Rattle.bench_nodes.specs.declared.table.TestRow.{TestRow}
use Rattle.bench_slots.specs.Slots.{plain, number_at}
use Rattle.bench_slots.specs.Tables.{ModelReading, Sound, Faulty, AreOrderedItems, all_slots}
use Rattle.bench_parts.specs.Contents.{OfRole, OfFault, PartsState, histories, content}

-- ---- models

-- it is known what the item of that number does, with some history
abbrev pub IsRoleKnown : PartsState → ℕ → RoleContent → Type 0
IsRoleKnown s number role =
    (history : List SeenName) × (content s 0 number ≡ Some (OfRole role history))

-- and so of each item
abbrev pub AreRolesKnown : PartsState → List ℕ → List ResolvedItem → Type 0
AreRolesKnown s numbers items =
    (index : ℕ) (r : ResolvedItem) → slice_get items index ≡ Some r
    → IsRoleKnown s (number_at numbers index) (role_content r.role)

-- the model is there as it is read
abbrev pub IsModelIn : PartsState → ModelReading → Type 0
IsModelIn s (Sound id numbers items used) =
    AreOrderedItems items [] used × AreRolesKnown s numbers items
IsModelIn s (Faulty id fault) = content s 1 id ≡ Some (OfFault fault)

-- ---- rows

-- the stamp of an edit up to the last
abbrev pub IsStamp : ℕ → ℕ → Type 0
IsStamp last stamp = (0 < stamp) × (stamp ≤ last)

-- an item has the stamp of an edit, that which changed its text last, whatever the item does
abbrev pub IsItemRow : ℕ → ItemRow → Option SharedItem → Type 0
IsItemRow last row role = IsStamp last row.stamp

-- a model has one where it has a fault
abbrev pub IsModelRow : ℕ → ModelRow → Option ModelFault → Type 0
IsModelRow last row None = row.stamp ≡ 0
IsModelRow last row (Some fault) = IsStamp last row.stamp

-- a test has one for each part
pub record IsTestRow (last : ℕ) (row : TestRow) (test : Test) : Type 0 where
  pub condition : IsStamp last row.condition
  pub observed : IsStamp last row.observed
  pub locations : IsStamp last row.locations
  pub init : IsStamp last row.init
  pub threads : Each (IsStamp last) row.threads.items
  pub each_thread : length row.threads.items ≡ length test.threads.items

-- a row for each test, and the set of its locations
abbrev pub AreTestRows : ℕ → List TestRow → List Test → List (Vec (List ℕ) Global) → Type 0
AreTestRows last [] [] [] = Unit {0}
AreTestRows last (r ∷ rs) (t ∷ ts) (l ∷ ls) = IsTestRow last r t × AreTestRows last rs ts ls
AreTestRows last _ _ _ = ⊥

-- ---- the whole

-- the state is that of its tests and of these models
pub record IsBuilt (s : PartsState) (models : List ModelReading) : Type 0 where
  pub slots : map plain s.parts.table.slots.items ≡ all_slots (histories s) models
  pub models_in : Each (IsModelIn s) models
  pub items : AllZip (IsItemRow s.parts.last) s.parts.table.items.items s.parts.roles.items
  pub faults : AllZip (IsModelRow s.parts.last) s.parts.table.models.items s.parts.faults.items
  pub tests : AreTestRows s.parts.last s.parts.table.tests.items s.tests s.parts.locations.items
