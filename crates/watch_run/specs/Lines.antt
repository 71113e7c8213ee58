-- What the line of a test says, and which lines are written. Read after Holding.
use Rattle.std.specs.Prelude.{◌≡◌, ◌⊎◌, ℕ, ◌+◌, List, [], ◌∷◌, ◌++◌, Option, Some, None, codes, decimal, drop, bytes_eq, if◌then◌else◌}
use Rattle.std.specs.List.{position_or_len, AllZip}
use Rattle.text_values.specs.TestValue.{Content}
use Rattle.text_values.specs.Layout.{is_line_end}
use Rattle.outcome_states.specs.declared.answer.Outcome.{Outcome}
use Rattle.outcome_texts.specs.Cells.{Cell, NoCell, Open, Settled}
use Rattle.outcome_texts.specs.Columns.{table_of}
use Rattle.bench_texts.specs.BenchTexts.{BenchTexts, PlainModel}
use Rattle.session_answers.specs.Cells.{test_named, model_named, IsPlainOutcome}

-- ---- the line of a test

-- the table of the test alone, under the models of these names
abbrev pub test_table : (models : List (List ℕ)) → (name : List ℕ) → List Cell → List ℕ
test_table models name cells = table_of models (record { name = name; cells = cells } ∷ [])

-- what stands behind the first line
abbrev pub behind_line : List ℕ → List ℕ
behind_line text = drop (position_or_len is_line_end text + 1) text

-- the outcome is what evaluating the test under the model of these names from nothing gives
pub record IsTestResult (t : BenchTexts) (name under : List ℕ) (outcome : Outcome) : Type 0 where
  pub test : Content
  pub model : PlainModel
  pub test_is : test_named t name ≡ Some test
  pub model_is : model_named t under ≡ Some model
  pub right : IsPlainOutcome test model outcome

-- The cell of the test under the model of these names: there is none where one of the two is not
-- there.
abbrev pub IsTestCell : BenchTexts → (name under : List ℕ) → Cell → Type 0
IsTestCell t name under NoCell = (test_named t name ≡ None) ⊎ (model_named t under ≡ None)
IsTestCell t name under Open = ⊥
IsTestCell t name under (Settled outcome) = IsTestResult t name under outcome

-- the line of a test: its cell under each of these models, as in a table of it alone
pub record IsTestLine (models : List (List ℕ)) (t : BenchTexts) (name line : List ℕ)
    : Type 0 where
  pub cells : List Cell
  pub right : AllZip (IsTestCell t name) models cells
  pub is : line ≡ behind_line (test_table models name cells)

-- the line of the test that a file holds, or nothing where no version of the file was accepted
abbrev pub IsFileLine : (models : List (List ℕ)) → BenchTexts → Option (List ℕ)
    → (line : List ℕ) → Type 0
IsFileLine models t None line = line ≡ []
IsFileLine models t (Some name) line = IsTestLine models t name line

-- the lines of all files, in their order
abbrev pub AreLinesOf : (models : List (List ℕ)) → BenchTexts → (names : List (Option (List ℕ)))
    → (lines : List (List ℕ)) → Type 0
AreLinesOf models t names lines = AllZip (IsFileLine models t) names lines

-- ---- the lines that are written

abbrev pub changed_line : (last now : List ℕ) → List ℕ
changed_line last now = if bytes_eq now last then [] else now

-- those of the lines that differ from the last that were written of their files, in the order of
-- the files
abbrev pub changed_lines : (lasts nows : List (List ℕ)) → List ℕ
changed_lines lasts [] = []
changed_lines [] (now ∷ nows) = now ++ changed_lines [] nows
changed_lines (last ∷ lasts) (now ∷ nows) = changed_line last now ++ changed_lines lasts nows

abbrev pub jobs_line : ℕ → List ℕ
jobs_line jobs = codes "jobs " ++ decimal jobs ++ 10 ∷ []

-- the text gained the lines that changed, and the number of jobs
abbrev pub AreLinesWritten : (lasts nows : List (List ℕ)) → (jobs : ℕ) → (before after : List ℕ)
    → Type 0
AreLinesWritten lasts nows jobs before after =
    after ≡ before ++ changed_lines lasts nows ++ jobs_line jobs
