-- What a table looks up in place of a search, as the laws of its type say. Read it after Slots.
use Rattle.std.specs.Prelude.{ℕ, zero, suc, ◌&&◌, not, nat_lt, Bool, true, false, List, [], ◌∷◌, ◌++◌, Option, Some, None, Vec, map, if◌then◌else◌}
use Rattle.std.specs.declared.alloc.Global.{Global}
use Rattle.memo_core.specs.declared.keys.Kind.{Kind}
use Rattle.memo_core.specs.declared.keys.Node.{Node}
use Rattle.bench_nodes.specs.declared.places.SlotName.{SlotName}
use Rattle.bench_nodes.specs.declared.table.Slot.{Slot}
use Rattle.bench_nodes.specs.declared.table.SlotKey.{SlotKey}
use Rattle.bench_nodes.specs.declared.table.TestRow.{TestRow}
use Rattle.bench_nodes.specs.Slots.{has_slot, uses}

-- the number comes after the last one, if there is one
abbrev pub is_after : Option ℕ → ℕ → Bool
is_after None id = true
is_after (Some last) id = nat_lt last id

-- the numbers of the tests rise
abbrev pub rise_after : Option ℕ → List TestRow → Bool
rise_after last [] = true
rise_after last (t ∷ ts) = is_after last t.id && rise_after (Some t.id) ts

abbrev pub are_rising : List TestRow → Bool
are_rising ts = rise_after None ts

-- no two slots are of one kind and number
abbrev pub are_apart : List Slot → Bool
are_apart [] = true
are_apart (s ∷ ss) = not (has_slot ss s.kind s.of) && are_apart ss

abbrev pub slot_name : Slot → SlotName
slot_name s = record { kind = s.kind; of = s.of }

-- the slots that use the outputs of the nodes of this kind and number
abbrev pub user_names : List Slot → Kind → ℕ → List SlotName
user_names [] kind of = []
user_names (s ∷ ss) kind of =
    if uses kind of s.inputs.items then slot_name s ∷ user_names ss kind of
    else user_names ss kind of

-- those of each of these slots
abbrev pub user_lists : List Slot → List Slot → List (List SlotName)
user_lists all [] = []
user_lists all (s ∷ ss) = user_names all s.kind s.of ∷ user_lists all ss

-- with one more behind the list at an index
abbrev pub put_at : ℕ → SlotName → List (List SlotName) → List (List SlotName)
put_at at name [] = []
put_at zero name (l ∷ ls) = (l ++ name ∷ []) ∷ ls
put_at (suc at) name (l ∷ ls) = l ∷ put_at at name ls

-- the lists of these slots, with a user of these inputs
abbrev pub with_user : SlotName → List SlotKey → List Slot → List (List SlotName)
    → List (List SlotName)
with_user name keys [] ls = ls
with_user name keys (s ∷ ss) [] = []
with_user name keys (s ∷ ss) (l ∷ ls) =
    (if uses s.kind s.of keys then l ++ name ∷ [] else l) ∷ with_user name keys ss ls

abbrev pub slot_names : Vec SlotName Global → List SlotName
slot_names v = v.items

-- the node of a test and a slot's name
abbrev pub node_named : ℕ → SlotName → Node
node_named test name = record { kind = name.kind; test = test; of = name.of }

-- the users of each slot, where they are listed
abbrev pub lists_if : Bool → List Slot → List (List SlotName)
lists_if true ss = user_lists ss ss
lists_if false ss = []

abbrev pub lists_in : Bool → List (Vec SlotName Global) → List (List SlotName)
lists_in true vs = map slot_names vs
lists_in false vs = []
