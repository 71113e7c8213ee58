-- What the cells of a board show is what their tests say under their models.
use Rattle.std.specs.Prelude.{◌≡◌, ℕ, List, Some, All}
use Rattle.text_values.specs.declared.test.Test.{Test}
use Rattle.text_values.specs.TestValue.{content_of}
use Rattle.outcome_states.specs.declared.answer.Outcome.{Outcome}
use Rattle.outcome_texts.specs.Cells.{Cell, NoCell, Open, Settled}
use Rattle.bench_texts.specs.declared.model.NamedModel.{NamedModel}
use Rattle.board.specs.declared.operation.BoardOp.{BoardOp}
use Rattle.board.specs.Contents.{cell_named}
use Rattle.board.specs.Operations.{board_after}
use Rattle.board.specs.Legal.{TestsAndModels, texts_after}
use Rattle.board.specs.Results.{test_by_name, model_by_name, HasBoth, LacksOne, ShowsRightCells}
use Rattle.meaning_laws.specs.Words.{IsTestOfWords}
use Rattle.meaning_outcomes.specs.Outcomes.{IsMeant}

-- The tests write numbers of 32 bits, as each test does that a text means.
abbrev pub AreTestsOfWords : TestsAndModels → Type 0
AreTestsOfWords h = All (λ t. IsTestOfWords (content_of t)) h.tests

-- The outcome is what the test of that name says under the model of that name.
pub record IsMeantIn (h : TestsAndModels) (test model : List ℕ) (outcome : Outcome) : Type 0 where
  pub content : Test
  pub under : NamedModel
  pub test_is : test_by_name h test ≡ Some content
  pub model_is : model_by_name h model ≡ Some under
  pub meant : IsMeant content under.text outcome

-- There is no cell just where the texts lack the test or the model, and an outcome is theirs.
abbrev pub IsMeantCell : TestsAndModels → (test model : List ℕ) → Cell → Type 0
IsMeantCell h test model NoCell = LacksOne h test model
IsMeantCell h test model Open = HasBoth h test model
IsMeantCell h test model (Settled outcome) = IsMeantIn h test model outcome

-- After these operations the cell of each two names is so, for the texts after them.
abbrev pub ShowsMeantCells : List BoardOp → Type 0
ShowsMeantCells ops =
    (test model : List ℕ)
    → IsMeantCell (texts_after ops) test model (cell_named (board_after ops) test model)

-- It is, where each cell is right for the texts.
abbrev pub BoardsAreMeant : Type 0
BoardsAreMeant =
    (ops : List BoardOp) → AreTestsOfWords (texts_after ops) → ShowsRightCells ops
    → ShowsMeantCells ops
