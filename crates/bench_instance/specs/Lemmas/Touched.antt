-- What an edit touches, which nodes stand on a node, and which memos may stay.
use Rattle.std.proofs.Common.{◌≡◌, ℕ, true, false, sym, ◌∙◌}
use Rattle.memo_core.specs.declared.keys.Node.{Node}
use Rattle.memo_core.specs.Laws.{AreReaders, TouchesOnly}
use Rattle.memo_core.specs.Step.{Has}
use Rattle.bench_texts.specs.declared.edit.Edit.{Edit}
use Rattle.bench_nodes.specs.Nodes.{used, users}
use Rattle.bench_nodes.proofs.Laws.{users_are_readers}
use Rattle.bench_parts.specs.States.{given_to_node, is_given, keeps}
use Rattle.bench_edits.specs.Readings.{readings_of}
use Rattle.bench_edits.specs.Left.{ArePartsKept}
use Rattle.bench_edits.proofs.KeepAll.{keeps_all}
use Rattle.bench_edits.proofs.Kept.{parts_kept}
use Rattle.bench_edits.proofs.Touching.{slots_alike, edit_touches}
use Rattle.bench_instance.specs.declared.stamped_texts.StampedTexts.{StampedTexts}
use Rattle.bench_instance.specs.declared.stamped_texts.PreparedEdit.{PreparedEdit}
use Rattle.bench_instance.specs.StampedTexts.{AreSoundTexts, stamped_state, stamped_net}
use Rattle.bench_instance.specs.Edited.{IsPrepared, IsCommitted}
use Rattle.bench_instance.specs.Lemmas.Commits.{parts_edited}
use Rattle.bench_instance.specs.Lemmas.CellProofs.{orderly_parts}

are_kept : (t : StampedTexts) → AreSoundTexts t
    → ArePartsKept t.parts t.texts.tests.items t.texts.models.items
are_kept t sound =
    parts_kept t.parts t.texts.tests.items t.texts.models.items (orderly_parts t sound)

pub used_kept : (t : StampedTexts) → AreSoundTexts t → (n : Node) → Has (used t.parts.table) n
    → keeps t.parts n ≡ true
used_kept t sound n there = (are_kept t sound).may_keep n there

pub users_read : (t : StampedTexts) → AreSoundTexts t → AreReaders (stamped_net t) (users t.parts.table)
users_read t sound =
    users_are_readers t.parts.table (λ n g. is_given (given_to_node (stamped_state t) n) g)
    (slots_alike (stamped_state t) (readings_of t.parts.table.models.items t.texts.models.items)
    (are_kept t sound).kept)

pub edits_touch : (t u w : StampedTexts) (e : Edit) (p : PreparedEdit) (number : ℕ) → AreSoundTexts t
    → IsPrepared t e p u → IsCommitted u p number w
    → TouchesOnly (stamped_net t) (stamped_net w) w.touched.items
edits_touch t u w e p number sound prepared put =
    rw (put.touched, prepared.touched) (edit_touches t.parts w.parts t.texts.tests.items
    t.texts.models.items p.texts.replacement number
    (λ n g. is_given (given_to_node (stamped_state t) n) g)
    (λ n g. is_given (given_to_node (stamped_state w) n) g) p.parts
    (parts_edited t u w e p number prepared put sound))

pub edits_keep : (t u w : StampedTexts) (e : Edit) (p : PreparedEdit) (number : ℕ) → AreSoundTexts t
    → IsPrepared t e p u → IsCommitted u p number w → p.may_drop ≡ false → (n : Node)
    → keeps t.parts n ≡ true → keeps w.parts n ≡ true
edits_keep t u w e p number sound prepared put none =
    keeps_all t.parts w.parts t.texts.tests.items t.texts.models.items p.texts.replacement number
    p.parts
    (parts_edited t u w e p number prepared put sound) (sym prepared.drops ∙ none)
