-- Read this first: what is held of the watched files, and what a version of a file makes of it.
use Rattle.std.specs.Prelude.{◌≡◌, ◌≢◌, false, not, ◌&&◌, Bool, ℕ, zero, suc, ◌+◌, List, [], ◌∷◌, ◌++◌, map, replicate, get_or, remove, bytes_eq, slice_get, if◌then◌else◌, Option, Some, None, codes, decimal}
use Rattle.std.specs.List.{list_any}
use Rattle.text_values.specs.TestValue.{Content}
use Rattle.text_values.specs.ModelValue.{Clause}
use Rattle.cat_grammar.specs.declared.form.Form.TheVariants as forms
use Rattle.cat_grammar.specs.Reads.{ReadsClauses}
use Rattle.litmus_grammar.specs.Texts.{ReadsTest}
use Rattle.bench_texts.specs.BenchTexts.{BenchTexts, PlainModel, test_index, put_at, changed_at, no_texts}
use Rattle.bench_texts.specs.Edits.{Edit, PutTest, PutModel, RefusesEdit}
use Rattle.bench_texts.specs.declared.fault.EditFault.{EditFault}
use Rattle.session_answers.specs.Cells.{test_named, model_named}
use Rattle.session_edits.specs.Faults.{HasFaultLine}

-- the name on the bench of the model that the file of this index holds
abbrev pub bench_model_name : (index : ℕ) → List ℕ
bench_model_name index = codes "model" ++ decimal index

-- the names of the models of so many files, in their order
abbrev pub bench_model_names : (count : ℕ) → List (List ℕ)
bench_model_names zero = []
bench_model_names (suc count) = bench_model_names count ++ bench_model_name count ∷ []

-- What is held of the files: the texts of the bench, and for the file of each test the name of the
-- test that it holds, or none where no version of it was accepted.
pub record Holding : Type 0 where
  pub texts : BenchTexts
  pub names : List (Option (List ℕ))

-- of so many files of tests no version was accepted
abbrev pub no_names : ℕ → List (Option (List ℕ))
no_names count = replicate count None

-- nothing is held of so many files of tests, nor of any of a model
abbrev pub empty_holding : (count : ℕ) → Holding
empty_holding count = record { texts = no_texts; names = no_names count }

-- ---- the watched files, by their paths

-- the file of a model or of a test, by its index among those of its kind
pub data File : Type 0 where
  ModelFile : (index : ℕ) → File
  TestFile : (index : ℕ) → File

-- a file and its path
pub record FilePath : Type 0 where
  pub file : File
  pub path : List ℕ

-- the files of one kind that have these paths, from that index on
abbrev pub files_from : (kind : ℕ → File) → (index : ℕ) → (paths : List (List ℕ)) → List FilePath
files_from kind index [] = []
files_from kind index (path ∷ paths) =
    record { file = kind index; path = path } ∷ files_from kind (index + 1) paths

-- all files: those of the models, and then those of the tests
abbrev pub all_files : (models tests : List (List ℕ)) → List FilePath
all_files models tests = files_from ModelFile 0 models ++ files_from TestFile 0 tests

-- the first of these files that has that path
abbrev pub first_at : List FilePath → (path : List ℕ) → Option File
first_at [] path = None
first_at (f ∷ files) path = if bytes_eq f.path path then Some f.file else first_at files path

-- the file of that path: of a model, or else of a test
abbrev pub file_at : (models tests : List (List ℕ)) (path : List ℕ) → Option File
file_at models tests path = first_at (all_files models tests) path

-- ---- a version that is accepted

-- the bench holds the model of this name, with just these items
pub record HoldsItems (name : List ℕ) (items : List Clause) (t : BenchTexts) : Type 0 where
  pub model : PlainModel
  pub there : model_named t name ≡ Some model
  pub are : map (λ i. i.clause) model.items ≡ items

-- the tests are the same, and so is the model of each other name
pub record IsSameButModel (name : List ℕ) (old new : BenchTexts) : Type 0 where
  pub tests : new.tests ≡ old.tests
  pub models : (other : List ℕ) → other ≢ name → model_named new other ≡ model_named old other

-- Of the file of a model: this model has the items that the text means from then on. The other
-- models stay, and so do the tests.
pub record IsModelTaken (index : ℕ) (text : List ℕ) (old new : Holding) : Type 0 where
  pub items : List Clause
  pub reads : ReadsClauses forms.Model text items
  pub holds : HoldsItems (bench_model_name index) items new.texts
  pub others : IsSameButModel (bench_model_name index) old.texts new.texts
  pub names : new.names ≡ old.names

abbrev pub holds_name : List ℕ → Option (List ℕ) → Bool
holds_name name None = false
holds_name name (Some held) = bytes_eq held name

-- the name of the test that the file of that index holds, if any
abbrev pub held_name : ℕ → (names : List (Option (List ℕ))) → Option (List ℕ)
held_name index names = get_or names index None

-- What the file of that index holds goes where it holds the test of this name from then on: it is a
-- test of another name, which no other file holds.
abbrev pub is_leaving : Option (Option (List ℕ)) → (index : ℕ) (new : List ℕ)
    → (names : List (Option (List ℕ))) → Bool
is_leaving None index new names = false
is_leaving (Some None) index new names = false
is_leaving (Some (Some old)) index new names =
    not (bytes_eq old new) && not (list_any (holds_name old) (remove names index))

-- the tests without the first of a name that a file held, unless a file holds one of that name
abbrev pub without_unheld : Option (List ℕ) → (names : List (Option (List ℕ))) → List Content
    → List Content
without_unheld None names tests = tests
without_unheld (Some name) names tests =
    if list_any (holds_name name) names then tests else remove tests (test_index name tests)

-- the tests that stay where the file of that index holds the test of this name: without the one
-- that it held, if no file holds one of its name then
abbrev pub tests_left : (index : ℕ) (name : List ℕ) → Holding → List Content
tests_left index name held =
    without_unheld (held_name index held.names) (changed_at index (λ old. Some name) held.names)
    held.texts.tests

-- Of the file of a test: it holds the test that the text means from then on. This stands in the
-- place of the first of its name among the tests that stay, or behind them, and the models stay.
pub record IsTestTaken (index : ℕ) (text : List ℕ) (old new : Holding) : Type 0 where
  pub test : Content
  pub reads : ReadsTest text test
  pub names : new.names ≡ changed_at index (λ name. Some test.name) old.names
  pub tests : new.texts.tests
      ≡ put_at (test_index test.name (tests_left index test.name old)) test
      (tests_left index test.name old)
  pub models : new.texts.models ≡ old.texts.models

abbrev pub IsFileTaken : File → (text : List ℕ) → (old new : Holding) → Type 0
IsFileTaken (ModelFile index) text old new = IsModelTaken index text old new
IsFileTaken (TestFile index) text old new = IsTestTaken index text old new

-- ---- a version that means what its file holds already

-- the text means the items of the model of this file
abbrev pub IsModelHeld : (index : ℕ) → (text : List ℕ) → BenchTexts → Type 0
IsModelHeld index text t =
    (items : List Clause) × ReadsClauses forms.Model text items
    × HoldsItems (bench_model_name index) items t

-- the text means the test that this file holds, which the bench has under its name
abbrev pub IsTestHeld : (index : ℕ) → (text : List ℕ) → Holding → Type 0
IsTestHeld index text held =
    (test : Content) × ReadsTest text test × (slice_get held.names index ≡ Some (Some test.name))
    × (test_named held.texts test.name ≡ Some test)

abbrev pub IsFileHeld : File → (text : List ℕ) → Holding → Type 0
IsFileHeld (ModelFile index) text held = IsModelHeld index text held.texts
IsFileHeld (TestFile index) text held = IsTestHeld index text held

-- ---- a version that is refused

-- the edit that puts the whole text on the bench
abbrev pub whole_edit : File → (text : List ℕ) → Edit
whole_edit (ModelFile index) text = PutModel (bench_model_name index) text
whole_edit (TestFile index) text = PutTest text

-- the bench refuses the whole text for that fault
abbrev pub IsVersionRefused : File → (text : List ℕ) → BenchTexts → EditFault → Type 0
IsVersionRefused file text t fault =
    HasFaultLine fault × RefusesEdit t false (whole_edit file text) fault
