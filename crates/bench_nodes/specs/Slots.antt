-- The slots of a table by kind and number, and which of them use another. Nodes cites it.
use Rattle.std.specs.Prelude.{ℕ, ◌==◌, ◌&&◌, ◌||◌, Bool, false, List, [], ◌∷◌}
use Rattle.memo_core.specs.declared.keys.Kind.{Kind}
use Rattle.memo_core.specs.Names.{kind_number}
use Rattle.bench_nodes.specs.declared.table.Slot.{Slot}
use Rattle.bench_nodes.specs.declared.table.SlotKey.{SlotKey}
use Rattle.bench_nodes.specs.declared.table.SlotKey.TheVariants as slots

abbrev pub is_slot : Kind → ℕ → Slot → Bool
is_slot kind of s = (kind_number kind == kind_number s.kind) && (of == s.of)

abbrev pub has_slot : List Slot → Kind → ℕ → Bool
has_slot [] kind of = false
has_slot (s ∷ ss) kind of = is_slot kind of s || has_slot ss kind of

-- an input is an output of the test's node of this kind, of that item or model
abbrev pub is_output_of : Kind → ℕ → SlotKey → Bool
is_output_of kind of (slots.Test part) = false
is_output_of kind of (slots.Item number) = false
is_output_of kind of (slots.Fault id) = false
is_output_of kind of (slots.Value other from name) =
    (kind_number kind == kind_number other) && (of == from)

-- one of these inputs is
abbrev pub uses : Kind → ℕ → List SlotKey → Bool
uses kind of [] = false
uses kind of (k ∷ ks) = is_output_of kind of k || uses kind of ks
