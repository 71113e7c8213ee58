-- What is promised of a cell that is shown after some operations. Read this file first, then Edits.
use Rattle.std.specs.Prelude.{◌≡◌, ◌⊎◌, ℕ, List, Option, Some, None, slice_get, bytes_eq}
use Rattle.std.specs.List.{position_or_len}
use Rattle.text_values.specs.declared.test.Test.{Test}
use Rattle.outcome_states.specs.declared.answer.Outcome.{Outcome}
use Rattle.outcome_texts.specs.Cells.{Cell, NoCell, Open, Settled}
use Rattle.bench_texts.specs.declared.model.NamedModel.{NamedModel}
use Rattle.from_scratch.specs.FromScratch.{IsFromScratch}
use Rattle.board.specs.declared.operation.BoardOp.{BoardOp}
use Rattle.board.specs.Contents.{cell_named}
use Rattle.board.specs.Operations.{board_after}
use Rattle.board.specs.Legal.{TestsAndModels, texts_after}

-- the first test or model of that name
abbrev pub test_by_name : TestsAndModels → List ℕ → Option Test
test_by_name h name = slice_get h.tests (position_or_len (λ t. bytes_eq t.name name) h.tests)

abbrev pub model_by_name : TestsAndModels → List ℕ → Option NamedModel
model_by_name h name = slice_get h.models (position_or_len (λ m. bytes_eq m.name name) h.models)

-- the texts have a test and a model of these names
pub record HasBoth (h : TestsAndModels) (test model : List ℕ) : Type 0 where
  pub content : Test
  pub under : NamedModel
  pub test_is : test_by_name h test ≡ Some content
  pub model_is : model_by_name h model ≡ Some under

-- or they lack one of the two
abbrev pub LacksOne : TestsAndModels → (test model : List ℕ) → Type 0
LacksOne h test model = (test_by_name h test ≡ None) ⊎ (model_by_name h model ≡ None)

-- the outcome is what evaluating the test under the model of these names from nothing gives
pub record IsResultIn (h : TestsAndModels) (test model : List ℕ) (outcome : Outcome) : Type 0 where
  pub content : Test
  pub under : NamedModel
  pub test_is : test_by_name h test ≡ Some content
  pub model_is : model_by_name h model ≡ Some under
  pub right : IsFromScratch content under.text outcome

-- The cell is right for these texts: there is none just where the texts lack the test or the model,
-- and an outcome is theirs.
abbrev pub IsRightCell : TestsAndModels → (test model : List ℕ) → Cell → Type 0
IsRightCell h test model NoCell = LacksOne h test model
IsRightCell h test model Open = HasBoth h test model
IsRightCell h test model (Settled outcome) = IsResultIn h test model outcome

-- after these operations each cell, asked for by the names of its test and of its model, is right
-- for the texts after them
abbrev pub ShowsRightCells : List BoardOp → Type 0
ShowsRightCells ops =
    (test model : List ℕ)
    → IsRightCell (texts_after ops) test model (cell_named (board_after ops) test model)

-- texts have one result of a test under a model
abbrev pub HasOneResultIn : TestsAndModels → (test model : List ℕ) → Type 0
HasOneResultIn h test model =
    (o p : Outcome) → IsResultIn h test model o → IsResultIn h test model p → o ≡ p
