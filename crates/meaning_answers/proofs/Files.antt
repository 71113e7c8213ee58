-- The tests that files hold write numbers of 32 bits, so reports tell what they say.
use Rattle.std.proofs.Common.{ℕ, List, [], ◌∷◌, All, sym, subst}
use Rattle.std.specs.List.{AllZip, AllByRecursion}
use Rattle.std.proofs.lemmas.List.Elements.{All-nil, All-cons, All-append, recursion_from_All}
use Rattle.text_values.specs.declared.test.Test.{Test}
use Rattle.text_values.specs.TestValue.{content_of}
use Rattle.outcome_texts.specs.Cells.{Cell, NoCell, Open, Settled}
use Rattle.outcome_texts.specs.Columns.{Row}
use Rattle.command_answers.specs.declared.file.TextFile.{TextFile}
use Rattle.command_answers.specs.declared.reading.NamedModel.{NamedModel}
use Rattle.command_answers.specs.Reports.{AddsTest, IsTestAdded, IsTestFault, AreTests, NoTest, NextTest, IsCellUnder, IsReportRow, AreFilesRead}
use Rattle.meaning_laws.specs.Words.{IsTestOfWords}
use Rattle.meaning_texts.proofs.Reading.{all_read}
use Rattle.meaning_answers.specs.Files.{IsCellOfFiles, IsRowOfFiles, AreFilesSaid, TablesAreSaid, DifferencesAreSaid}
use Rattle.meaning_answers.proofs.Saying.{Laws, outcome_said}

abbrev IsOfWords : Test → Type 0
IsOfWords t = IsTestOfWords (content_of t)

more_words : (file : TextFile) (tests more : List Test) (faults lines : List ℕ)
    → All IsOfWords tests → AddsTest file tests faults more lines → All IsOfWords more
more_words file tests more faults lines words (IsTestAdded t read more_is same) =
    subst (λ (ts : List Test). All IsOfWords ts) (sym more_is)
    (All-append IsOfWords tests (t ∷ []) words
    (All-cons IsOfWords t [] (all_read file.text.items (content_of t) read) (All-nil IsOfWords)))
more_words file tests more faults lines words (IsTestFault rule offset refused more_is told) =
    subst (λ (ts : List Test). All IsOfWords ts) (sym more_is) words

file_words : (before : List ℕ) (files : List TextFile) (tests : List Test) (lines : List ℕ)
    → AreTests before files tests lines → All IsOfWords tests
file_words before files tests lines NoTest = All-nil IsOfWords
file_words before files tests lines (NextTest front file some more faults last earlier adds) =
    more_words file some more faults last (file_words before front some faults earlier) adds

-- ---- rows

module _ (laws : Laws) where
  cell_of_files : (test : Test) (m : NamedModel) (cell : Cell) → IsOfWords test
      → IsCellUnder test m cell → IsCellOfFiles test m cell
  cell_of_files test m NoCell words h = absurd h
  cell_of_files test m Open words h = absurd h
  cell_of_files test m (Settled o) words h = outcome_said laws test words m.model o h

  cells_of_files : (test : Test) (ms : List NamedModel) (cells : List Cell) → IsOfWords test
      → AllZip (IsCellUnder test) ms cells → AllZip (IsCellOfFiles test) ms cells
  cells_of_files test [] [] words h = tt
  cells_of_files test [] (c ∷ cs) words h = absurd h
  cells_of_files test (m ∷ ms) [] words h = absurd h
  cells_of_files test (m ∷ ms) (c ∷ cs) words h =
      (cell_of_files test m c words h.0, cells_of_files test ms cs words h.1)

  rows_of_files : (ms : List NamedModel) (tests : List Test) (rows : List Row)
      → AllByRecursion IsOfWords tests → AllZip (IsReportRow ms) tests rows
      → AllZip (IsRowOfFiles ms) tests rows
  rows_of_files ms [] [] words h = tt
  rows_of_files ms [] (r ∷ rs) words h = absurd h
  rows_of_files ms (t ∷ ts) [] words h = absurd h
  rows_of_files ms (t ∷ ts) (r ∷ rs) words h = (
    record { name = (h.0).name; cells = cells_of_files t ms r.cells words.0 (h.0).cells },
    rows_of_files ms ts rs words.1 h.1,
  )

  files_said : (model_files test_files : List TextFile) (models : List NamedModel) (rows : List Row)
      (faults : List ℕ) → AreFilesRead model_files test_files models rows faults
      → AreFilesSaid model_files test_files models rows faults
  files_said model_files test_files models rows faults h = record {
    model_faults = h.model_faults;
    models_read = h.models_read;
    tests = h.tests;
    tests_read = h.tests_read;
    rows_said =
        rows_of_files models h.tests rows
        (recursion_from_All IsOfWords h.tests
        (file_words h.model_faults test_files h.tests faults h.tests_read))
        h.rows_said;
  }

  pub tables_said : TablesAreSaid
  tables_said model_files test_files text faults h =
      (h.models, h.rows, files_said model_files test_files h.models h.rows faults h.read, h.text_is)

  pub differences_said : DifferencesAreSaid
  differences_said model_files test_files text faults h =
      (h.models, h.rows, files_said model_files test_files h.models h.rows faults h.read, h.text_is)
