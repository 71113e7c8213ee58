-- What edits make of the texts of the bench. Read after Holding.
use Rattle.std.specs.Prelude.{◌≡◌, ◌⊎◌, ◌<◌, Bool, true, false, ℕ, List, length, map, slice_get, All, Option, Some, None, Vec}
use Rattle.std.specs.declared.alloc.Global.{Global}
use Rattle.std.specs.List.{list_any}
use Rattle.text_values.specs.ModelValue.{Clause}
use Rattle.text_values.specs.TestValue.{Content}
use Rattle.bench_texts.specs.BenchTexts.{BenchTexts, PlainModel, test_index, put_at}
use Rattle.bench_texts.specs.Edits.{Edit, PutModel, SetItem, InsertItem, RemoveItem, Applies, RefusesEdit}
use Rattle.bench_texts.specs.Held.{texts_of}
use Rattle.bench_texts.specs.declared.texts.Texts.{Texts}
use Rattle.bench_texts.specs.declared.fault.EditFault.{EditFault}
use Rattle.bench_texts.specs.declared.fault.EditFault.TheVariants as faults
use Rattle.session_answers.specs.Cells.{test_named, model_named}
use Rattle.session_edits.specs.Faults.{HasFaultLine}
use Rattle.litmus_grammar.specs.Texts.{ReadsTest}
use Rattle.watch_edits.specs.Changes.{with_changes, IsCommonEnd, IsBeforeEnd, IsNeededChange}
use Rattle.watch_edits.specs.Parts.{with_parts, Differs, HasSameShape}
use Rattle.watch_edits.specs.Edits.{IsPartEdit, item_edit}
use Rattle.watch_edits.specs.declared.items.ItemChange.{ItemChange}
use Rattle.watch_edits.specs.declared.parts.TestPart.{TestPart}
use Rattle.watch_run.specs.declared.watched.Paths.{Paths}
use Rattle.watch_run.specs.declared.watched.WatchedFile.{WatchedFile}
use Rattle.watch_run.specs.declared.watched.WatchedFile.TheVariants as files
use Rattle.watch_run.specs.Holding.{Holding, File, ModelFile, TestFile, IsFileTaken, IsVersionRefused, holds_name, is_leaving}

-- the file that a value of the code names
abbrev pub file_of : WatchedFile → File
file_of (files.Model index) = ModelFile index
file_of (files.Test index) = TestFile index

-- the paths of the files
abbrev pub model_paths : Paths → List (List ℕ)
model_paths paths = map (λ m. m.now) paths.models.now

abbrev pub test_paths : Paths → List (List ℕ)
test_paths paths = map (λ t. t.now) paths.tests.now

-- what these texts and names hold
abbrev pub holding_of : Texts → Vec (Option (List ℕ)) Global → Holding
holding_of texts names = record { texts = texts_of texts; names = names.items }

-- an edit was made of the texts, or is refused for that fault, and then they stay
abbrev pub IsEditTried : BenchTexts → Edit → Option EditFault → BenchTexts → Type 0
IsEditTried t e None new = Applies t false e new
IsEditTried t e (Some fault) new = HasFaultLine fault × RefusesEdit t false e fault × (new ≡ t)

-- the edit would be made of the texts
abbrev pub AcceptsEdit : BenchTexts → Edit → Type 0
AcceptsEdit t e = (new : BenchTexts) × Applies t false e new

-- the bench is full
abbrev pub is_full_fault : EditFault → Bool
is_full_fault faults.Full = true
is_full_fault _ = false

-- where a test's version is refused for a full bench, the test that its file holds stays
abbrev pub IsFullBeside : (index : ℕ) → (text : List ℕ) → (names : List (Option (List ℕ)))
    → EditFault → Type 0
IsFullBeside index text names fault =
    (test : Content) → ReadsTest text test → is_full_fault fault ≡ true
    → is_leaving (slice_get names index) index test.name names ≡ false

-- a version of a file is taken, or refused for that fault, and then what is held stays
abbrev pub IsVersionTaken : File → (text : List ℕ) → Holding → Option EditFault → Holding → Type 0
IsVersionTaken file text old None new = IsFileTaken file text old new
IsVersionTaken file text old (Some fault) new =
    IsVersionRefused file text old.texts fault × (new ≡ old)

-- the edit puts the model of this name, or changes its items
abbrev pub IsModelEdit : (name : List ℕ) → Edit → Type 0
IsModelEdit name (PutModel model text) = model ≡ name
IsModelEdit name (SetItem model item text) = model ≡ name
IsModelEdit name (InsertItem model before text) = model ≡ name
IsModelEdit name (RemoveItem model item) = model ≡ name
IsModelEdit name _ = ⊥

-- what the items of a model say, and their numbers
abbrev pub clauses_in : PlainModel → List Clause
clauses_in model = map (λ i. i.clause) model.items

abbrev pub numbers_in : PlainModel → List ℕ
numbers_in model = map (λ i. i.number) model.items

-- These changes make the new items of those of the model of this name. They leave alone the items
-- in which both versions end, and an item is set only where it differs.
pub record AreChanges (name : List ℕ) (t : BenchTexts) (new : List Clause)
    (changes : List ItemChange) : Type 0 where
  pub model : PlainModel
  pub there : model_named t name ≡ Some model
  pub applied : with_changes new changes (clauses_in model) ≡ new
  pub before : (count : ℕ) → IsCommonEnd (clauses_in model) new count
      → All (IsBeforeEnd (length (clauses_in model)) (length new) count) changes
  pub needed : All (IsNeededChange (clauses_in model) new) changes

-- the edit makes this change of the model of this name, whose new version has these items
pub record IsChangeEdit (name : List ℕ) (t : BenchTexts) (new : List Clause) (change : ItemChange)
    (e : Edit) : Type 0 where
  pub model : PlainModel
  pub there : model_named t name ≡ Some model
  pub is : e ≡ item_edit name (numbers_in model) new change

-- the change was made of the texts by its edit if that is accepted, and otherwise they stay
abbrev pub IsChangeTried : (name : List ℕ) → (new : List Clause) → ItemChange → (accepted : Bool)
    → (old now : BenchTexts) → Type 0
IsChangeTried name new change true old now =
    (e : Edit) × IsChangeEdit name old new change e × Applies old false e now
IsChangeTried name new change false old now = now ≡ old

-- these parts make the new test of the one of its name, and each of them differs
pub record AreTestParts (t : BenchTexts) (new : Content) (parts : List TestPart) : Type 0 where
  pub test : Content
  pub there : test_named t new.name ≡ Some test
  pub put : with_parts new parts test ≡ new
  pub differ : All (Differs test new) parts

-- no parts make the new test: there is none of its name, or one of another shape
abbrev pub HasNoParts : BenchTexts → (new : Content) → Type 0
HasNoParts t new =
    (test : Content) → test_named t new.name ≡ Some test → HasSameShape test new → ⊥

-- a part was put by an edit if that is accepted, and otherwise the texts stay
abbrev pub IsPartTried : (name : List ℕ) → (accepted : Bool) → (old now : BenchTexts) → Type 0
IsPartTried name true old now = (e : Edit) × IsPartEdit name e × Applies old false e now
IsPartTried name false old now = now ≡ old

-- a test of the name that a file held stays, since a file holds one of that name
abbrev pub IsStillHeld : Option (List ℕ) → (names : List (Option (List ℕ))) → Type 0
IsStillHeld None names = Unit {0}
IsStillHeld (Some name) names = list_any (holds_name name) names ≡ true

-- the tests are the same, or another one of that name stands in the place of the first of it
abbrev pub AreSameBut : (name : List ℕ) → (old new : List Content) → Type 0
AreSameBut name old new =
    (new ≡ old)
    ⊎ ((test : Content) × (test.name ≡ name) × (test_index name old < length old)
    × (new ≡ put_at (test_index name old) test old))
