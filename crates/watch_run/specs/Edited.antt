-- All edits of a version of a file. Those of a model are of items that differ, or of the whole
-- text. Those of a test drop the former test, and put parts or the whole text. Read after Edits.
use Rattle.std.specs.Prelude.{◌≡◌, ◌+◌, ◌≤◌, true, false, ℕ, List, [], ◌∷◌, ◌++◌, length, take, Option, Some, None}
use Rattle.std.specs.List.{list_any}
use Rattle.text_values.specs.ModelValue.{Clause}
use Rattle.text_values.specs.TestValue.{Content}
use Rattle.cat_grammar.specs.declared.form.Form.TheVariants as forms
use Rattle.cat_grammar.specs.Reads.{ReadsClauses}
use Rattle.litmus_grammar.specs.Texts.{ReadsTest}
use Rattle.bench_texts.specs.BenchTexts.{BenchTexts}
use Rattle.bench_texts.specs.Edits.{Edit, PutTest, DropTest, PutModel, Applies, RefusesEdit}
use Rattle.bench_texts.specs.declared.fault.EditFault.{EditFault}
use Rattle.bench_texts.specs.declared.fault.EditFault.TheVariants as faults
use Rattle.session_answers.specs.Cells.{test_named, model_named}
use Rattle.watch_edits.specs.declared.items.ItemChange.{ItemChange}
use Rattle.watch_edits.specs.declared.parts.TestPart.{TestPart}
use Rattle.watch_run.specs.Holding.{Holding, File, ModelFile, TestFile, bench_model_name, holds_name, held_name, HoldsItems, IsFileTaken}
use Rattle.watch_run.specs.Edits.{AreChanges, IsChangeTried, AreTestParts, HasNoParts, IsPartTried, IsStillHeld}

-- ---- of a model

-- these changes were made of the model of this name, one after another
pub data AreChangesMade (name : List ℕ) (new : List Clause)
    : List ItemChange → (old now : BenchTexts) → Type 0 where
  NoChange : (t : BenchTexts) → AreChangesMade name new [] t t
  OneChange : (changes : List ItemChange) (change : ItemChange) (old middle now : BenchTexts)
      → AreChangesMade name new changes old middle
      → IsChangeTried name new change true middle now
      → AreChangesMade name new (changes ++ change ∷ []) old now

-- So many edits made the first of the changes that make the new items. There are none where there
-- is no such model.
pub data AreItemsChanged (name : List ℕ) (new : List Clause) (old now : BenchTexts) (edits : ℕ)
    : Type 0 where
  NoItems : model_named old name ≡ None → now ≡ old → edits ≡ 0
      → AreItemsChanged name new old now edits
  SomeItems : (changes : List ItemChange) → AreChanges name old new changes
      → edits ≤ length changes → AreChangesMade name new (take edits changes) old now
      → AreItemsChanged name new old now edits

-- So many edits gave the model of this name the new items: such ones, and where they do not make
-- all items, one more that puts the whole text.
pub data IsModelPut (name : List ℕ) (new : List Clause) (whole : Edit) (old now : BenchTexts)
    (edits : ℕ) : Type 0 where
  PutByItems : AreItemsChanged name new old now edits → HoldsItems name new now
      → IsModelPut name new whole old now edits
  PutWhole : (few : ℕ) (middle : BenchTexts) → AreItemsChanged name new old middle few
      → (HoldsItems name new middle → ⊥) → Applies middle false whole now → edits ≡ few + 1
      → IsModelPut name new whole old now edits

-- so many edits were made for a version of the file of a model: none where it is refused
abbrev pub IsModelEdited : (index : ℕ) → (text : List ℕ) → Option EditFault
    → (old now : BenchTexts) → (edits : ℕ) → Type 0
IsModelEdited index text None old now edits =
    (items : List Clause) × ReadsClauses forms.Model text items
    × IsModelPut (bench_model_name index) items (PutModel (bench_model_name index) text) old now
    edits
IsModelEdited index text (Some fault) old now edits = edits ≡ 0

-- ---- of a test

-- so many edits put parts of the test of this name, one after another
pub data ArePartsPut (name : List ℕ) : (edits : ℕ) → (old now : BenchTexts) → Type 0 where
  NoPart : (t : BenchTexts) → ArePartsPut name 0 t t
  OnePart : (edits : ℕ) (old middle now : BenchTexts) → ArePartsPut name edits old middle
      → IsPartTried name true middle now → ArePartsPut name (edits + 1) old now

-- So many edits put parts of the test, at most as many as differ. There are none where no parts
-- make the new test.
pub data ArePartsChanged (new : Content) (old now : BenchTexts) (edits : ℕ) : Type 0 where
  NoParts : HasNoParts old new → now ≡ old → edits ≡ 0 → ArePartsChanged new old now edits
  SomeParts : (parts : List TestPart) → AreTestParts old new parts → edits ≤ length parts
      → ArePartsPut new.name edits old now → ArePartsChanged new old now edits

-- So many edits put the new test: such ones, and where they do not make it, one more that puts the
-- whole text.
pub data IsTestPut (new : Content) (text : List ℕ) (old now : BenchTexts) (edits : ℕ)
    : Type 0 where
  PutByParts : ArePartsChanged new old now edits → test_named now new.name ≡ Some new
      → IsTestPut new text old now edits
  PutAsWhole : (few : ℕ) (middle : BenchTexts) → ArePartsChanged new old middle few
      → (test_named middle new.name ≡ Some new → ⊥) → Applies middle false (PutTest text) now
      → edits ≡ few + 1 → IsTestPut new text old now edits

-- So many edits drop the test of the name that a file held: one, unless a file holds it still or it
-- is not there.
pub data IsTestDropped (name : Option (List ℕ)) (names : List (Option (List ℕ)))
    (old now : BenchTexts) (edits : ℕ) : Type 0 where
  IsKept : IsStillHeld name names → now ≡ old → edits ≡ 0 → IsTestDropped name names old now edits
  IsAway : (held : List ℕ) → name ≡ Some held
      → RefusesEdit old false (DropTest held) faults.NoTest → now ≡ old → edits ≡ 0
      → IsTestDropped name names old now edits
  IsDropped : (held : List ℕ) → name ≡ Some held → list_any (holds_name held) names ≡ false
      → Applies old false (DropTest held) now → edits ≡ 1
      → IsTestDropped name names old now edits

-- so many edits were made for a version of the file of a test: none where it is refused
abbrev pub IsTestEdited : (index : ℕ) → (text : List ℕ) → Option EditFault → (old now : Holding)
    → (edits : ℕ) → Type 0
IsTestEdited index text None old now edits =
    (test : Content) × ReadsTest text test
    × ((drops : ℕ) × (puts : ℕ) × (middle : BenchTexts)
    × IsTestDropped (held_name index old.names) now.names old.texts middle drops
    × IsTestPut test text middle now.texts puts × (edits ≡ drops + puts))
IsTestEdited index text (Some fault) old now edits = edits ≡ 0

-- ---- of any file

abbrev pub IsFileEdited : File → (text : List ℕ) → Option EditFault → (old now : Holding)
    → (edits : ℕ) → Type 0
IsFileEdited (ModelFile index) text fault old now edits =
    IsModelEdited index text fault old.texts now.texts edits
IsFileEdited (TestFile index) text fault old now edits =
    IsTestEdited index text fault old now edits

-- a version of a file is taken, by edits that are made for it
abbrev pub IsTakenByEdits : File → (text : List ℕ) → (old now : Holding) → Type 0
IsTakenByEdits file text old now =
    IsFileTaken file text old now × ((edits : ℕ) × IsFileEdited file text None old now edits)
