-- What is said of files of models and files of tests. A file whose text is refused is told, and the
-- others go on.
use Rattle.std.specs.Prelude.{◌≡◌, ℕ, ◌+◌, ◌⊎◌, List, [], ◌∷◌, ◌++◌, map, Option}
use Rattle.std.specs.Io.KnownBytes.{Keeps}
use Rattle.std.specs.List.{AllZip}
use Rattle.cat_grammar.specs.declared.form.Form.TheVariants.{Model}
use Rattle.cat_grammar.specs.Reads.{ReadsClauses}
use Rattle.cat_tokens.specs.declared.rule.CatRule.{CatRule}
use Rattle.cat_tokens.specs.Tokens.{digits_number as model_rule_number}
use Rattle.text_values.specs.ModelValues.{clauses_of}
use Rattle.outcome_texts.specs.Cells.{Cell, NoCell, Open, Settled}
use Rattle.outcome_texts.specs.Columns.{Row, table_of}
use Rattle.outcome_texts.specs.Differences.{differences_printed}
use Rattle.session_answers.specs.Rows.{pair_in}
use Rattle.litmus_grammar.specs.Texts.{ReadsTest}
use Rattle.litmus_tokens.specs.declared.rule.LitmusRule.{LitmusRule}
use Rattle.litmus_tokens.specs.Numbers.{number_of as test_rule_number}
use Rattle.text_values.specs.declared.test.Test.{Test}
use Rattle.text_values.specs.TestValue.{content_of}
use Rattle.command_answers.specs.declared.file.TextFile.{TextFile}
use Rattle.command_answers.specs.declared.reading.NamedModel.{NamedModel}
use Rattle.command_answers.specs.Answer.{IsModelRefused, IsTestRefused}
use Rattle.from_scratch.specs.FromScratch.{IsFromScratch}
use Rattle.command_answers.specs.Files.{model_stem, AddsFault}

-- ---- files that are read in turn

-- behind these models and these lines, a file adds a model or a line
pub data AddsModel (file : TextFile) (models : List NamedModel) (faults : List ℕ)
    (more : List NamedModel) (lines : List ℕ) : Type 0 where
  IsModelAdded : (m : NamedModel) → m.name ≡ model_stem file.path.now
      → ReadsClauses Model file.text.items (clauses_of m.model.items.items) → more ≡ models ++ m ∷ []
      → lines ≡ faults → AddsModel file models faults more lines
  IsModelFault : (rule : CatRule) → (offset : ℕ) → IsModelRefused file.text.items rule offset
      → more ≡ models
      → AddsFault faults lines file.path.now file.text.items 67 (model_rule_number rule) offset
      → AddsModel file models faults more lines

-- the models that the files hold, and what is told of those that are refused
pub data AreModels : List TextFile → List NamedModel → List ℕ → Type 0 where
  NoModel : AreModels [] [] []
  NextModel : (files : List TextFile) (file : TextFile) (models more : List NamedModel)
      (faults lines : List ℕ) → AreModels files models faults
      → AddsModel file models faults more lines → AreModels (files ++ file ∷ []) more lines

pub data AddsTest (file : TextFile) (tests : List Test) (faults : List ℕ) (more : List Test)
    (lines : List ℕ) : Type 0 where
  IsTestAdded : (t : Test) → ReadsTest file.text.items (content_of t) → more ≡ tests ++ t ∷ []
      → lines ≡ faults → AddsTest file tests faults more lines
  IsTestFault : (rule : LitmusRule) → (offset : ℕ) → IsTestRefused file.text.items rule offset
      → more ≡ tests
      → AddsFault faults lines file.path.now file.text.items 76 (test_rule_number rule) offset
      → AddsTest file tests faults more lines

-- what is told of a model alone: nothing where its text reads
abbrev pub IsModelTold : TextFile → List ℕ → Type 0
IsModelTold model lines = (models : List NamedModel) × AddsModel model [] [] models lines

-- the test is looked at where nothing is told of the model
abbrev pub IsTestTold : TextFile → List ℕ → List ℕ → Type 0
IsTestTold test [] lines = (tests : List Test) × AddsTest test [] [] tests lines
IsTestTold test (b ∷ bs) lines = lines ≡ b ∷ bs

-- the tests that the files hold, behind these lines
pub data AreTests (before : List ℕ) : List TextFile → List Test → List ℕ → Type 0 where
  NoTest : AreTests before [] [] before
  NextTest : (files : List TextFile) (file : TextFile) (tests more : List Test)
      (faults lines : List ℕ) → AreTests before files tests faults
      → AddsTest file tests faults more lines → AreTests before (files ++ file ∷ []) more lines

-- ---- a model and a test

-- what is told of the first of a model and a test that is refused; nothing where none is
pub record IsToldOf (model test : TextFile) (lines : List ℕ) : Type 0 where
  pub models : List NamedModel
  pub faults : List ℕ
  pub of_model : AddsModel model [] [] models faults
  pub of_test : IsTestTold test faults lines

-- ---- the cells

-- the cell shows an outcome of the test under the model
abbrev pub IsCellUnder : Test → NamedModel → Cell → Type 0
IsCellUnder test m NoCell = ⊥
IsCellUnder test m Open = ⊥
IsCellUnder test m (Settled o) = IsFromScratch test m.model o

-- the row of a test under these models
pub record IsReportRow (models : List NamedModel) (test : Test) (row : Row) : Type 0 where
  pub name : row.name ≡ test.name
  pub cells : AllZip (IsCellUnder test) models row.cells

-- what the files hold: the first faults are those of the models
pub record AreFilesRead (model_files test_files : List TextFile) (models : List NamedModel)
    (rows : List Row) (faults : List ℕ) : Type 0 where
  pub model_faults : List ℕ
  pub models_read : AreModels model_files models model_faults
  pub tests : List Test
  pub tests_read : AreTests model_faults test_files tests faults
  pub rows_said : AllZip (IsReportRow models) tests rows

-- ---- reports

abbrev pub model_names : List NamedModel → List (List ℕ)
model_names models = map (λ m. m.name) models

-- the table of the tests under the models, and the lines of the files that are refused
pub record IsTableReport (model_files test_files : List TextFile) (text faults : List ℕ)
    : Type 0 where
  pub models : List NamedModel
  pub rows : List Row
  pub read : AreFilesRead model_files test_files models rows faults
  pub text_is : text ≡ table_of (model_names models) rows

-- where two models tell the tests apart: nothing where they are not two
abbrev pub difference_under : List NamedModel → List Row → List ℕ
difference_under [] rows = []
difference_under (m ∷ []) rows = []
difference_under (m ∷ n ∷ []) rows = differences_printed (map pair_in rows)
difference_under (m ∷ n ∷ o ∷ ms) rows = []

pub record IsDifferenceReport (model_files test_files : List TextFile) (text faults : List ℕ)
    : Type 0 where
  pub models : List NamedModel
  pub rows : List Row
  pub read : AreFilesRead model_files test_files models rows faults
  pub text_is : text ≡ difference_under models rows

-- One call failed and none followed it: one to the faults' sink, before the text was written, or
-- else one to the text's. These are the failed calls of the text's sink before and after, those of
-- the faults' sink, and the bytes of the text's sink.
abbrev pub IsStopped : (text_old text_new faults_old faults_new : ℕ) → (old new : Option (List ℕ))
    → Type 0
IsStopped text_old text_new faults_old faults_new old new =
    ((faults_new ≡ faults_old + 1) × (text_new ≡ text_old) × Keeps old new)
    ⊎ ((faults_new ≡ faults_old) × (text_new ≡ text_old + 1))
