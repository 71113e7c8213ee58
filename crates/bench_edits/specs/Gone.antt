-- Whether the memo of some node may have to go with an edit, and the law that none has to where not.
-- Read it after Edited.
use Rattle.std.specs.Prelude.{◌≡◌, ℕ, Bool, true, false, not, ◌&&◌, List}
use Rattle.memo_core.specs.declared.keys.Node.{Node}
use Rattle.text_values.specs.declared.test.Test.{Test}
use Rattle.bench_texts.specs.declared.model.NamedModel.{NamedModel}
use Rattle.bench_texts.specs.declared.replacement.Replacement.{Replacement}
use Rattle.bench_parts.specs.declared.parts.Parts.{Parts}
use Rattle.bench_parts.specs.States.{keeps, keep_kinds, keep_models}
use Rattle.bench_edits.specs.declared.edited.EditedParts.{EditedParts}
use Rattle.bench_edits.specs.declared.edited.EditedParts.TheVariants as edited
use Rattle.bench_edits.specs.declared.edited.ModelParts.{ModelParts}
use Rattle.bench_edits.specs.Laws.{IsEdit}

-- each item that is a node is one of the same kind among those made, and each model is among them
abbrev pub keep_owners : Parts → ModelParts → Bool
keep_owners p m =
    keep_kinds p.table.items.items p.kinds.items m.items.rows.items m.items.kinds.items
    && keep_models p.table.models.items m.rows.items

abbrev pub may_drop : Parts → EditedParts → Bool
may_drop p (edited.PutTest at row locations) = false
may_drop p (edited.DropTest at) = true
may_drop p (edited.Models m) = not (keep_owners p m)

-- LAW: where none has to go, each memo that may stay may stay after the edit
abbrev pub EditsKeepAll : Type 0
EditsKeepAll =
    (p q : Parts) (tests : List Test) (models : List NamedModel) (r : Replacement) (number : ℕ)
    (e : EditedParts) → IsEdit p tests models r number e q → may_drop p e ≡ false
    → (n : Node) → keeps p n ≡ true → keeps q n ≡ true
