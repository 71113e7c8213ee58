-- The slots that an edit touches: whose use, inputs or stamps it changes. Read it after Nodes.
use Rattle.std.specs.Prelude.{ℕ, ◌==◌, ◌&&◌, nat_lt, Bool, true, false, List, [], ◌∷◌, ◌++◌, Option, Some, None, if◌then◌else◌}
use Rattle.memo_core.specs.declared.keys.Kind.{Kind}
use Rattle.memo_core.specs.declared.keys.Kind.TheVariants.{Space, Group, Check, Verdict}
use Rattle.memo_core.specs.declared.keys.Node.{Node}
use Rattle.memo_core.specs.Names.{kind_number}
use Rattle.bench_nodes.specs.declared.places.SlotName.{SlotName}
use Rattle.bench_nodes.specs.declared.table.ItemRow.{ItemRow}
use Rattle.bench_nodes.specs.declared.table.ModelRow.{ModelRow}
use Rattle.bench_nodes.specs.declared.table.NodeTable.{NodeTable}
use Rattle.bench_nodes.specs.declared.table.Slot.{Slot}
use Rattle.bench_nodes.specs.declared.table.SlotKey.{SlotKey}
use Rattle.bench_nodes.specs.declared.table.SlotKey.TheVariants as slots
use Rattle.bench_nodes.specs.declared.table.TestRow.{TestRow}
use Rattle.bench_nodes.specs.declared.new_slots.NewSlots.{NewSlots}
use Rattle.bench_nodes.specs.Nodes.{has_slot, slot_keys, item_stamp, fault_stamp, stamp_in}
use Rattle.bench_nodes.specs.Places.{slot_name, node_named}

-- ---- inputs

-- two inputs have the same name
abbrev pub same_slot_key : SlotKey → SlotKey → Bool
same_slot_key (slots.Test p) (slots.Test q) = p == q
same_slot_key (slots.Item m) (slots.Item n) = m == n
same_slot_key (slots.Fault m) (slots.Fault n) = m == n
same_slot_key (slots.Value k m x) (slots.Value l n y) =
    (kind_number k == kind_number l) && (m == n) && (x == y)
same_slot_key _ _ = false

abbrev pub same_slot_keys : List SlotKey → List SlotKey → Bool
same_slot_keys [] [] = true
same_slot_keys (k ∷ ks) (l ∷ ls) = same_slot_key k l && same_slot_keys ks ls
same_slot_keys [] (l ∷ ls) = false
same_slot_keys (k ∷ ks) [] = false

-- ---- an edit of models

-- slots, and the items and models with their stamps
pub record SlotRows : Type 0 where
  pub slots : List Slot
  pub items : List ItemRow
  pub models : List ModelRow

-- before the edit: those of the table
abbrev pub rows_of : NodeTable → SlotRows
rows_of t =
    record { slots = t.slots.items; items = t.items.items; models = t.models.items }

-- after it: those that the edit makes
abbrev pub new_rows : NewSlots → SlotRows
new_rows n = record { slots = n.slots.now; items = n.items.now; models = n.models.now }

-- the item or fault that an input names has the same stamp before the edit and after it; parts of a
-- test have numbers from 2 on, and an edit of models leaves them as they are
abbrev pub keeps_stamp : SlotRows → SlotRows → SlotKey → Bool
keeps_stamp old new (slots.Test part) = nat_lt 1 part
keeps_stamp old new (slots.Item number) = item_stamp old.items number == item_stamp new.items number
keeps_stamp old new (slots.Fault id) = fault_stamp old.models id == fault_stamp new.models id
keeps_stamp old new (slots.Value kind of name) = true

abbrev pub keep_stamps : SlotRows → SlotRows → List SlotKey → Bool
keep_stamps old new [] = true
keep_stamps old new (k ∷ ks) = keeps_stamp old new k && keep_stamps old new ks

-- a slot was there before with the same inputs, and each keeps its stamp
abbrev pub is_slot_kept : SlotRows → SlotRows → Slot → Bool
is_slot_kept old new s =
    has_slot old.slots s.kind s.of && same_slot_keys (slot_keys old.slots s.kind s.of) s.inputs.items
    && keep_stamps old new s.inputs.items

-- the slots after the edit that are not kept
abbrev pub changed_slots : SlotRows → SlotRows → List Slot → List SlotName
changed_slots old new [] = []
changed_slots old new (s ∷ ss) =
    if is_slot_kept old new s then changed_slots old new ss
    else slot_name s ∷ changed_slots old new ss

-- the slots before the edit that are not there after it
abbrev pub gone_slots : List Slot → List Slot → List SlotName
gone_slots new [] = []
gone_slots new (s ∷ ss) =
    if has_slot new s.kind s.of then gone_slots new ss else slot_name s ∷ gone_slots new ss

abbrev pub touched_slots : SlotRows → SlotRows → List SlotName
touched_slots old new = changed_slots old new new.slots ++ gone_slots new.slots old.slots

-- ---- an edit of a test

-- the part of the test that an input names has the same stamp before the edit and after it
abbrev pub keeps_part : TestRow → TestRow → SlotKey → Bool
keeps_part a b (slots.Test part) = stamp_in a part == stamp_in b part
keeps_part a b (slots.Item number) = true
keeps_part a b (slots.Fault id) = true
keeps_part a b (slots.Value kind of name) = true

abbrev pub keep_parts : TestRow → TestRow → List SlotKey → Bool
keep_parts a b [] = true
keep_parts a b (k ∷ ks) = keeps_part a b k && keep_parts a b ks

abbrev pub same_stamps : List ℕ → List ℕ → Bool
same_stamps [] [] = true
same_stamps (x ∷ xs) (y ∷ ys) = (x == y) && same_stamps xs ys
same_stamps [] (y ∷ ys) = false
same_stamps (x ∷ xs) [] = false

-- initial values, locations and threads have the same stamps before the edit and after it
abbrev pub same_space : TestRow → TestRow → Bool
same_space a b =
    (a.init == b.init) && (a.locations == b.locations) && same_stamps a.threads.items b.threads.items

-- a node of that kind with these inputs keeps its inputs and their stamps
abbrev pub keeps_inputs : TestRow → TestRow → Kind → List SlotKey → Bool
keeps_inputs a b Space ks = same_space a b
keeps_inputs a b Group ks = keep_parts a b ks
keeps_inputs a b Check ks = keep_parts a b ks
keeps_inputs a b Verdict ks = keep_parts a b ks

-- so it is, and the test was there before
abbrev pub is_node_kept : Option TestRow → TestRow → Kind → List SlotKey → Bool
is_node_kept None b kind ks = false
is_node_kept (Some a) b kind ks = keeps_inputs a b kind ks

-- the slots whose nodes are not kept
abbrev pub test_slots : Option TestRow → TestRow → List Slot → List SlotName
test_slots a b [] = []
test_slots a b (s ∷ ss) =
    if is_node_kept a b s.kind s.inputs.items then test_slots a b ss
    else slot_name s ∷ test_slots a b ss

-- ---- nodes

-- the nodes of these slots of a test
abbrev pub nodes_named : ℕ → List SlotName → List Node
nodes_named test [] = []
nodes_named test (n ∷ ns) = node_named test n ∷ nodes_named test ns

-- the nodes of these slots of each of these tests
abbrev pub nodes_of_tests : List SlotName → List TestRow → List Node
nodes_of_tests ns [] = []
nodes_of_tests ns (t ∷ ts) = nodes_named t.id ns ++ nodes_of_tests ns ts

-- the names of slots
abbrev pub all_names : List Slot → List SlotName
all_names [] = []
all_names (s ∷ ss) = slot_name s ∷ all_names ss
