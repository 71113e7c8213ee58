-- The nodes that a model gives each test, with their inputs in order: texts first, then the space,
-- then what other nodes give. An output of a group goes by the number of its name, as other items
-- see it, in the history of its item: `histories` gives that of each item, by the item's number.
use Rattle.std.specs.Prelude.{ℕ, ◌==◌, List, [], ◌∷◌, ◌++◌, map, get_or, slice_get, Option, Some, None, if◌then◌else◌}
use Rattle.memo_core.specs.declared.keys.Kind.{Kind}
use Rattle.memo_core.specs.declared.keys.Kind.TheVariants as kinds
use Rattle.binding_kinds.specs.declared.scope.Input.{Input}
use Rattle.binding_graph.specs.declared.resolved.ResolvedItem.{ResolvedItem}
use Rattle.binding_graph.specs.declared.resolved.Role.{Role}
use Rattle.binding_graph.specs.declared.resolved.Role.TheVariants as roles
use Rattle.bench_items.specs.Items.{held_history, role_content}
use Rattle.bench_items.specs.Naming.{SeenName, seen_names_in, number_in_history}
use Rattle.bench_items.specs.declared.items.SharedItem.{SharedItem}
use Rattle.bench_nodes.specs.declared.table.ItemRow.{ItemRow}
use Rattle.bench_nodes.specs.declared.table.Slot.{Slot}
use Rattle.bench_nodes.specs.declared.table.SlotKey.{SlotKey}
use Rattle.bench_nodes.specs.declared.table.SlotKey.TheVariants as slots
use Rattle.bench_slots.specs.declared.histories.Histories.{Histories}

-- a slot, without where its inputs lie in memory
pub record PlainSlot : Type 0 where
  pub kind : Kind
  pub of : ℕ
  pub inputs : List SlotKey

abbrev pub plain : Slot → PlainSlot
plain s = record { kind = s.kind; of = s.of; inputs = s.inputs.items }

-- the number of the item at an index
abbrev pub number_at : List ℕ → ℕ → ℕ
number_at numbers i = get_or numbers i 0

-- the text of a function
abbrev pub function_key : List ℕ → ℕ → SlotKey
function_key numbers f = slots.Item (number_at numbers f)

-- the history of the item of a number, empty where none is known
abbrev pub item_history : List ItemRow → List (Option SharedItem) → ℕ → List SeenName
item_history [] roles number = []
item_history (i ∷ is) [] number = []
item_history (i ∷ is) (r ∷ rs) number =
    if i.number == number then held_history r else item_history is rs number

-- likewise as the code holds them
abbrev pub histories_in : Histories → ℕ → List SeenName
histories_in h = item_history h.rows.now h.roles.now

-- where there is no name
abbrev pub no_name : SeenName
no_name = []

-- the name at a position of an item
abbrev pub name_of : Option ResolvedItem → ℕ → SeenName
name_of None position = no_name
name_of (Some r) position = get_or (seen_names_in (role_content r.role)) position no_name

-- the name that an input is
abbrev pub input_name : List ResolvedItem → Input → SeenName
input_name items i = name_of (slice_get items i.item) i.position

-- the column of a name of another item
abbrev pub name_key : (ℕ → List SeenName) → List ℕ → List ResolvedItem → Input → SlotKey
name_key histories numbers items i =
    slots.Value kinds.Group (number_at numbers i.item) (number_in_history
    (histories (number_at numbers i.item)) (input_name items i))

abbrev pub space_key : SlotKey
space_key = slots.Value kinds.Space 0 0

-- the inputs of an item of that number: its own text, the texts of the functions that it applies,
-- the space, and the names that it uses
abbrev pub item_keys : (ℕ → List SeenName) → List ℕ → List ResolvedItem → ℕ → ResolvedItem
    → List SlotKey
item_keys histories numbers items own r =
    slots.Item own ∷ map (function_key numbers) r.functions.items
    ++ space_key ∷ map (name_key histories numbers items) r.inputs.items

-- the node of an item, where it has one
abbrev pub slots_of : Role → ℕ → List SlotKey → List PlainSlot
slots_of (roles.Group recursive bodies) own keys =
    record { kind = kinds.Group; of = own; inputs = keys } ∷ []
slots_of (roles.Check check) own keys = record { kind = kinds.Check; of = own; inputs = keys } ∷ []
slots_of roles.Silent own keys = []

abbrev pub item_slots : (ℕ → List SeenName) → List ℕ → List ResolvedItem → ℕ → Option ResolvedItem
    → List PlainSlot
item_slots histories numbers items own None = []
item_slots histories numbers items own (Some r) =
    slots_of r.role own (item_keys histories numbers items own r)

-- of the items at some indexes
abbrev pub used_slots : (ℕ → List SeenName) → List ℕ → List ResolvedItem → List ℕ → List PlainSlot
used_slots histories numbers items [] = []
used_slots histories numbers items (i ∷ is) =
    item_slots histories numbers items (number_at numbers i) (slice_get items i)
    ++ used_slots histories numbers items is

-- ---- the inputs of a verdict

-- the text of a flag
abbrev pub flag_key : Role → ℕ → List SlotKey
flag_key (roles.Group recursive bodies) own = []
flag_key (roles.Check check) own = flagged check.flag own
  where
    flagged : Option (List ℕ) → ℕ → List SlotKey
    flagged None own = []
    flagged (Some name) own = slots.Item own ∷ []
flag_key roles.Silent own = []

-- the answers of a check or a flag
abbrev pub answer_key : Role → ℕ → List SlotKey
answer_key (roles.Group recursive bodies) own = []
answer_key (roles.Check check) own = slots.Value kinds.Check own 0 ∷ []
answer_key roles.Silent own = []

abbrev pub key_by : (Role → ℕ → List SlotKey) → ℕ → Option ResolvedItem → List SlotKey
key_by f own None = []
key_by f own (Some r) = f r.role own

-- of the items at some indexes
abbrev pub keys_by : (Role → ℕ → List SlotKey) → List ℕ → List ResolvedItem → List ℕ → List SlotKey
keys_by f numbers items [] = []
keys_by f numbers items (i ∷ is) =
    key_by f (number_at numbers i) (slice_get items i) ++ keys_by f numbers items is

-- the condition, what is observed, the texts of flags, the space, and the answers of checks and
-- flags
abbrev pub verdict_keys : List ℕ → List ResolvedItem → List ℕ → List SlotKey
verdict_keys numbers items used =
    slots.Test 2 ∷ slots.Test 3 ∷ keys_by flag_key numbers items used
    ++ space_key ∷ keys_by answer_key numbers items used

-- of a model without fault: its items, and its verdict
abbrev pub sound_slots : (ℕ → List SeenName) → ℕ → List ℕ → List ResolvedItem → List ℕ
    → List PlainSlot
sound_slots histories id numbers items used =
    used_slots histories numbers items used
    ++ record { kind = kinds.Verdict; of = id; inputs = verdict_keys numbers items used } ∷ []

-- of a model with a fault: the condition and the fault
abbrev pub faulty_slots : ℕ → List PlainSlot
faulty_slots id =
    record { kind = kinds.Verdict; of = id; inputs = slots.Test 2 ∷ slots.Fault id ∷ [] } ∷ []
