-- Tables and differences of files, by the definitions of `meaning`: as `Reports` of
-- `command_answers/specs` says it, where each outcome is what the test says under the model. Read
-- it after Answers.
use Rattle.std.specs.Prelude.{◌≡◌, ℕ, List}
use Rattle.std.specs.List.{AllZip}
use Rattle.text_values.specs.declared.test.Test.{Test}
use Rattle.text_values.specs.ModelValues.{clauses_of}
use Rattle.text_values.specs.TestValue.{content_of}
use Rattle.outcome_texts.specs.Cells.{Cell, Settled}
use Rattle.outcome_texts.specs.Columns.{Row, table_of}
use Rattle.command_answers.specs.declared.file.TextFile.{TextFile}
use Rattle.command_answers.specs.declared.reading.NamedModel.{NamedModel}
use Rattle.command_answers.specs.Reports.{AreModels, AreTests, model_names, difference_under, IsTableReport, IsDifferenceReport}
use Rattle.meaning_answers.specs.Answers.{IsOutcomeSaid}

-- the cell shows what the test says under the model
abbrev pub IsCellOfFiles : Test → NamedModel → Cell → Type 0
IsCellOfFiles test m (Settled o) =
    IsOutcomeSaid (content_of test) (clauses_of m.model.items.items) o
IsCellOfFiles test m cell = ⊥

-- the row of a test under these models
pub record IsRowOfFiles (models : List NamedModel) (test : Test) (row : Row) : Type 0 where
  pub name : row.name ≡ test.name
  pub cells : AllZip (IsCellOfFiles test) models row.cells

-- what the files hold: the models, the row of each test, and the lines of what is refused
pub record AreFilesSaid (model_files test_files : List TextFile) (models : List NamedModel)
    (rows : List Row) (faults : List ℕ) : Type 0 where
  pub model_faults : List ℕ
  pub models_read : AreModels model_files models model_faults
  pub tests : List Test
  pub tests_read : AreTests model_faults test_files tests faults
  pub rows_said : AllZip (IsRowOfFiles models) tests rows

-- the table of the files is one of what their tests say
abbrev pub TablesAreSaid : Type 0
TablesAreSaid =
    (model_files test_files : List TextFile) (text faults : List ℕ)
    → IsTableReport model_files test_files text faults
    → (models : List NamedModel) × (rows : List Row)
    × AreFilesSaid model_files test_files models rows faults
    × (text ≡ table_of (model_names models) rows)

-- and so is where two models differ
abbrev pub DifferencesAreSaid : Type 0
DifferencesAreSaid =
    (model_files test_files : List TextFile) (text faults : List ℕ)
    → IsDifferenceReport model_files test_files text faults
    → (models : List NamedModel) × (rows : List Row)
    × AreFilesSaid model_files test_files models rows faults
    × (text ≡ difference_under models rows)
