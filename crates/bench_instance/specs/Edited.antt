-- What an edit makes of texts with stamps, and how it is prepared and put in place. Read it after
-- StampedTexts.
use Rattle.std.specs.Prelude.{◌≡◌, ℕ, ◌+◌, ◌*◌, ◌<◌, ◌≤◌, ◌^◌, length, false}
use Rattle.bench_texts.specs.declared.edit.Edit as code
use Rattle.bench_texts.specs.Edits.{edit_of, is_whole, Applies}
use Rattle.bench_texts.specs.Held.{texts_of, AreModelsRead}
use Rattle.bench_texts.specs.Replacements.{texts_with, tests_with, models_with, IsPutBy, IsReplaceable}
use Rattle.bench_parts.specs.declared.parts.Parts.{Parts}
use Rattle.bench_parts.specs.States.{IsSamePartsState}
use Rattle.bench_parts.specs.Written.{IsStamped}
use Rattle.bench_edits.specs.declared.edited.EditedParts.{EditedParts}
use Rattle.bench_edits.specs.declared.edited.EditedParts.TheVariants as edited
use Rattle.bench_edits.specs.Edited as parts
use Rattle.bench_edits.specs.Laws.{IsEdit}
use Rattle.bench_edits.specs.Gone.{may_drop}
use Rattle.bench_edits.specs.Touched.{touched_nodes}
use Rattle.bench_texts.specs.declared.replacement.Replacement.{Replacement}
use Rattle.bench_instance.specs.declared.stamped_texts.StampedTexts.{StampedTexts}
use Rattle.bench_instance.specs.declared.stamped_texts.PreparedEdit.{PreparedEdit}
use Rattle.bench_instance.specs.StampedTexts.{stamped_state, AreSoundTexts, written_of}

-- ---- edits

-- the parts are made of what the edit puts in the place of what
pub record IsPartsEdit (t : StampedTexts) (number : ℕ) (u : StampedTexts) : Type 0 where
  pub replacement : Replacement
  pub parts : EditedParts
  pub is_edit : IsEdit t.parts t.texts.tests.items t.texts.models.items replacement number parts
      u.parts
  pub tests : u.texts.tests.items ≡ tests_with replacement t.texts.tests.items
  pub models : u.texts.models.items ≡ models_with replacement t.texts.models.items

-- The texts after an edit of that number: what the edit makes, sound again, and each part is as it
-- was, or has that number, or is gone.
pub record IsEdited (t : StampedTexts) (e : code.Edit) (number : ℕ) (u : StampedTexts)
    : Type 0 where
  pub applies : Applies (texts_of t.texts) false (edit_of e) (texts_of u.texts)
  pub sound : AreSoundTexts t → AreSoundTexts u
  pub stamped : AreSoundTexts t → IsStamped (written_of t) number (written_of u)
  pub made : AreSoundTexts t → IsPartsEdit t number u

-- ---- edits that are prepared

-- the texts are the same, wherever they lie in memory
pub record AreSameTexts (t u : StampedTexts) : Type 0 where
  pub texts : texts_of u.texts ≡ texts_of t.texts
  pub models : u.texts.models.items ≡ t.texts.models.items
  pub read : AreModelsRead t.texts → AreModelsRead u.texts
  pub state : IsSamePartsState (stamped_state t) (stamped_state u)

-- the edit is accepted, it puts or drops the test or the model that it names, there is room for
-- what it puts, its parts are made of that, and it is known which nodes it touches, whether some
-- memo may have to go, and whether it puts or drops a test or a model as a whole
pub record IsPrepared (t : StampedTexts) (e : code.Edit) (p : PreparedEdit) (u : StampedTexts)
    : Type 0 where
  pub applies : Applies (texts_of t.texts) false (edit_of e)
      (texts_with p.texts.replacement (texts_of t.texts))
  pub target : IsPutBy (texts_of t.texts) (edit_of e) p.texts.replacement
  pub fits : IsReplaceable u.texts p.texts.replacement
  pub made : parts.ArePartsMade t.parts t.texts.tests.items t.texts.models.items p.texts.replacement
      p.parts
  pub touched : p.touched.items ≡ touched_nodes t.parts p.parts
  pub drops : p.may_drop ≡ may_drop t.parts p.parts
  pub whole : p.texts.whole ≡ is_whole (edit_of e)
  pub same : AreSameTexts t u

-- at least as many nodes as are used with those parts
abbrev pub most_used : Parts → EditedParts → ℕ
most_used p (edited.PutTest at row locations) =
    (length p.table.tests.items + 1) * length p.table.slots.items
most_used p (edited.DropTest at) = (length p.table.tests.items + 1) * length p.table.slots.items
most_used p (edited.Models m) = (length p.table.tests.items + 1) * length m.slots.items

-- the texts have the room that a prepared edit needs
pub record HasRoomForEdit (t : StampedTexts) (p : PreparedEdit) : Type 0 where
  pub texts : IsReplaceable t.texts p.texts.replacement
  pub parts_are : parts.HasRoomForParts t.parts p.parts
  pub used : most_used t.parts p.parts ≤ p.used

-- the texts and their parts after a prepared edit is put in place under its number
pub record IsCommitted (t : StampedTexts) (p : PreparedEdit) (number : ℕ) (u : StampedTexts)
    : Type 0 where
  pub later : t.parts.last < number
  pub fits : number < 2 ^ 64
  pub texts : texts_of u.texts ≡ texts_with p.texts.replacement (texts_of t.texts)
  pub tests : u.texts.tests.items ≡ tests_with p.texts.replacement t.texts.tests.items
  pub models : u.texts.models.items ≡ models_with p.texts.replacement t.texts.models.items
  pub read : AreModelsRead t.texts → AreModelsRead u.texts
  pub parts_are : parts.Commits t.parts number p.parts u.parts
  pub touched : u.touched ≡ p.touched
