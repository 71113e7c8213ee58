-- The nodes that an edit touches, and the law that it changes no other. Read it after Edited.
use Rattle.std.specs.Prelude.{ℕ, Bool, List, [], Option, Some, None, slice_get}
use Rattle.memo_core.specs.declared.keys.Node.{Node}
use Rattle.memo_core.specs.Laws.{TouchesOnly}
use Rattle.text_values.specs.declared.test.Test.{Test}
use Rattle.bench_texts.specs.declared.model.NamedModel.{NamedModel}
use Rattle.bench_texts.specs.declared.replacement.Replacement.{Replacement}
use Rattle.bench_nodes.specs.Nodes.{net_of}
use Rattle.bench_nodes.specs.declared.table.Slot.{Slot}
use Rattle.bench_nodes.specs.declared.table.TestRow.{TestRow}
use Rattle.bench_nodes.specs.Touched.{SlotRows, rows_of, touched_slots, test_slots, nodes_named, nodes_of_tests, all_names}
use Rattle.bench_parts.specs.declared.parts.Parts.{Parts}
use Rattle.bench_edits.specs.declared.edited.EditedParts.{EditedParts}
use Rattle.bench_edits.specs.declared.edited.EditedParts.TheVariants as edited
use Rattle.bench_edits.specs.declared.edited.ModelParts.{ModelParts}
use Rattle.bench_edits.specs.Laws.{IsEdit}

-- the nodes of a test, if it is there
abbrev pub dropped_nodes : Option TestRow → List Slot → List Node
dropped_nodes None ss = []
dropped_nodes (Some t) ss = nodes_named t.id (all_names ss)

-- the slots, items and models that are made for an edit
abbrev pub rows_made : ModelParts → SlotRows
rows_made m =
    record { slots = m.slots.items; items = m.items.rows.items; models = m.rows.items }

-- the nodes that an edit touches for which this was made
abbrev pub touched_nodes : Parts → EditedParts → List Node
touched_nodes p (edited.PutTest at row locations) =
    nodes_named row.id (test_slots (slice_get p.table.tests.items at) row p.table.slots.items)
touched_nodes p (edited.DropTest at) =
    dropped_nodes (slice_get p.table.tests.items at) p.table.slots.items
touched_nodes p (edited.Models m) =
    nodes_of_tests (touched_slots (rows_of p.table) (rows_made m)) p.table.tests.items

-- LAW: each other node has the use, the inputs and the stamps that it had
abbrev pub EditsTouchOnly : Type 0 → Type 0
EditsTouchOnly G =
    (p q : Parts) (tests : List Test) (models : List NamedModel) (r : Replacement) (number : ℕ)
    (gives after : Node → G → Bool) (e : EditedParts) → IsEdit p tests models r number e q
    → TouchesOnly (net_of p.table gives) (net_of q.table after) (touched_nodes p e)
