-- What a table owes: each slot stands behind those that it uses, and slots of one kind and number
-- have the same inputs.
use Rattle.std.specs.Prelude.{◌≡◌, ⊤, true, List, [], ◌∷◌}
use Rattle.std.specs.List.{AllByRecursion as Each}
use Rattle.memo_core.specs.declared.keys.Kind.TheVariants.{Space}
use Rattle.bench_nodes.specs.declared.table.NodeTable.{NodeTable}
use Rattle.bench_nodes.specs.declared.table.Slot.{Slot}
use Rattle.bench_nodes.specs.declared.table.SlotKey.{SlotKey}
use Rattle.bench_nodes.specs.declared.table.SlotKey.TheVariants as slots
use Rattle.bench_nodes.specs.Nodes.{has_slot, slot_keys}

-- an input that is an output is one of these slots
abbrev pub IsOfEarlierSlot : List Slot → SlotKey → Type 0
IsOfEarlierSlot before (slots.Test part) = ⊤
IsOfEarlierSlot before (slots.Item number) = ⊤
IsOfEarlierSlot before (slots.Fault id) = ⊤
IsOfEarlierSlot before (slots.Value kind of name) = has_slot before kind of ≡ true

-- each slot uses those before it alone, the latest first
abbrev pub AreOrderedAfter : List Slot → List Slot → Type 0
AreOrderedAfter before [] = ⊤
AreOrderedAfter before (s ∷ ss) =
    Each (IsOfEarlierSlot before) s.inputs.items × AreOrderedAfter (s ∷ before) ss

abbrev pub IsTableOrdered : NodeTable → Type 0
IsTableOrdered t = AreOrderedAfter [] t.slots.items

-- the slot has the inputs of the first of its kind and number, and a space has none here
pub record HasOwnKeys (ss : List Slot) (s : Slot) : Type 0 where
  pub keys : slot_keys ss s.kind s.of ≡ s.inputs.items
  pub space : s.kind ≡ Space → s.inputs.items ≡ []

-- slots of one kind and number have the same inputs
abbrev pub AreSlotsAlike : List Slot → Type 0
AreSlotsAlike ss = Each (HasOwnKeys ss) ss
