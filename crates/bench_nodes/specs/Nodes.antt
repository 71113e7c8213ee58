-- Read this first: what a table says of stamps, used nodes, and the inputs of a node.
use Rattle.std.specs.Prelude.{ℕ, ◌+◌, ◌-◌, ◌==◌, ◌||◌, Bool, false, List, [], ◌∷◌, ◌++◌, get_or, Option, Some, None, if◌then◌else◌}
use Rattle.memo_core.specs.declared.keys.Kind.{Kind}
use Rattle.memo_core.specs.declared.keys.Kind.TheVariants.{Space, Group, Check, Verdict}
use Rattle.memo_core.specs.declared.keys.Key.{Key}
use Rattle.memo_core.specs.declared.keys.Key.TheVariants.{Part, Output}
use Rattle.memo_core.specs.declared.keys.Node.{Node}
use Rattle.memo_core.specs.Graph.{Net}
use Rattle.bench_nodes.specs.declared.table.ItemRow.{ItemRow}
use Rattle.bench_nodes.specs.declared.table.ModelRow.{ModelRow}
use Rattle.bench_nodes.specs.declared.table.NodeTable.{NodeTable}
use Rattle.bench_nodes.specs.declared.table.Slot.{Slot}
use Rattle.bench_nodes.specs.declared.table.SlotKey.{SlotKey}
use Rattle.bench_nodes.specs.declared.table.SlotKey.TheVariants as slots
use Rattle.bench_nodes.specs.declared.table.TestRow.{TestRow}
unfoldable pub use Rattle.bench_nodes.specs.Slots.{is_slot, has_slot, is_output_of, uses}

-- ---- stamps: 0 where a part is not there

abbrev pub item_stamp : List ItemRow → ℕ → ℕ
item_stamp [] number = 0
item_stamp (i ∷ is) number = if i.number == number then i.stamp else item_stamp is number

abbrev pub fault_stamp : List ModelRow → ℕ → ℕ
fault_stamp [] id = 0
fault_stamp (m ∷ ms) id = if m.id == id then m.stamp else fault_stamp ms id

-- the stamp of a part of a test
abbrev pub stamp_in : TestRow → ℕ → ℕ
stamp_in t part =
    if part == 2 then t.condition
    else (if part == 3 then t.observed
    else (if part == 4 then t.locations
    else (if part == 5 then t.init else get_or t.threads.items (part - 6) 0)))

abbrev pub test_stamp : List TestRow → ℕ → ℕ → ℕ
test_stamp [] part id = 0
test_stamp (t ∷ ts) part id = if t.id == id then stamp_in t part else test_stamp ts part id

-- items have their part 0, models 1, tests the others
abbrev pub part_stamp : NodeTable → ℕ → ℕ → ℕ
part_stamp t part of =
    if part == 0 then item_stamp t.items.items of
    else (if part == 1 then fault_stamp t.models.items of else test_stamp t.tests.items part of)

-- ---- used nodes

abbrev pub node_of : ℕ → Slot → Node
node_of test s = record { kind = s.kind; test = test; of = s.of }

-- the nodes of a test
abbrev pub nodes_at : List Slot → ℕ → List Node
nodes_at [] test = []
nodes_at (s ∷ ss) test = node_of test s ∷ nodes_at ss test

-- each test has a node for each slot
abbrev pub used_in : List Slot → List TestRow → List Node
used_in ss [] = []
used_in ss (t ∷ ts) = nodes_at ss t.id ++ used_in ss ts

abbrev pub used : NodeTable → List Node
used t = used_in t.slots.items t.tests.items

-- ---- inputs

-- an input of a node of that test
abbrev pub key_at : ℕ → SlotKey → Key
key_at test (slots.Test part) = Part part test
key_at test (slots.Item number) = Part 0 number
key_at test (slots.Fault id) = Part 1 id
key_at test (slots.Value kind of name) = Output (record { kind = kind; test = test; of = of }) name

abbrev pub keys_at : ℕ → List SlotKey → List Key
keys_at test [] = []
keys_at test (k ∷ ks) = key_at test k ∷ keys_at test ks

-- the inputs of the first slot of that kind and number
abbrev pub slot_keys : List Slot → Kind → ℕ → List SlotKey
slot_keys [] kind of = []
slot_keys (s ∷ ss) kind of = if is_slot kind of s then s.inputs.items else slot_keys ss kind of

-- so many threads, from that part on
abbrev pub thread_parts : ℕ → ℕ → List ℕ → List Key
thread_parts id part [] = []
thread_parts id part (t ∷ ts) = Part part id ∷ thread_parts id (part + 1) ts

-- the initial values, the threads, and the set of locations
abbrev pub space_parts : TestRow → List Key
space_parts t = Part 5 t.id ∷ thread_parts t.id 6 t.threads.items ++ Part 4 t.id ∷ []

-- the test of that number
abbrev pub row_of : List TestRow → ℕ → Option TestRow
row_of [] id = None
row_of (t ∷ ts) id = if t.id == id then Some t else row_of ts id

abbrev pub row_parts : Option TestRow → List Key
row_parts None = []
row_parts (Some t) = space_parts t

abbrev pub space_keys : List TestRow → ℕ → List Key
space_keys ts id = row_parts (row_of ts id)

-- by the kind, the test and the item or model of a node
abbrev pub node_inputs : NodeTable → Kind → ℕ → ℕ → List Key
node_inputs t Space test of = space_keys t.tests.items test
node_inputs t Group test of = keys_at test (slot_keys t.slots.items Group of)
node_inputs t Check test of = keys_at test (slot_keys t.slots.items Check of)
node_inputs t Verdict test of = keys_at test (slot_keys t.slots.items Verdict of)

abbrev pub inputs : NodeTable → Node → List Key
inputs t n = node_inputs t n.kind n.test n.of

-- ---- users

-- the nodes of a test that have an output of its node of this kind among their inputs
abbrev pub users_at : List Slot → Kind → ℕ → ℕ → List Node
users_at [] kind of test = []
users_at (s ∷ ss) kind of test =
    if uses kind of s.inputs.items then node_of test s ∷ users_at ss kind of test
    else users_at ss kind of test

-- the nodes that stand on a node
abbrev pub users : NodeTable → Node → List Node
users t n = users_at t.slots.items n.kind n.of n.test

-- ---- which nodes are there

abbrev pub has_test_row : List TestRow → ℕ → Bool
has_test_row [] id = false
has_test_row (t ∷ ts) id = (id == t.id) || has_test_row ts id

-- how many slots stand before the first of that kind and number
abbrev pub slot_index : List Slot → Kind → ℕ → ℕ
slot_index [] kind of = 0
slot_index (s ∷ ss) kind of = if is_slot kind of s then 0 else slot_index ss kind of + 1

-- the space is first, any other node behind those that it uses
abbrev pub rank_of : List Slot → Kind → ℕ → ℕ
rank_of ss Space of = 0
rank_of ss Group of = slot_index ss Group of + 1
rank_of ss Check of = slot_index ss Check of + 1
rank_of ss Verdict of = slot_index ss Verdict of + 1

abbrev pub rank : NodeTable → Node → ℕ
rank t n = rank_of t.slots.items n.kind n.of

-- all of this, with what jobs are given
abbrev pub net_of : {G : Type 0} → NodeTable → (Node → G → Bool) → Net G
net_of t gives = record { part = part_stamp t; inputs = inputs t; used = used t; gives = gives }
