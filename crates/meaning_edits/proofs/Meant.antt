-- A cell that is right shows what its test says.
use Rattle.std.proofs.Common.{ℕ, ◌≡◌, List, All, Option, Some, slice_get, subst}
use Rattle.std.specs.List.{position_or_len}
use Rattle.std.specs.Prelude.{bytes_eq}
use Rattle.std.proofs.lemmas.Option.{slice_get_within, get_or_from_slice_get}
use Rattle.text_values.specs.declared.test.Test.{Test}
use Rattle.text_values.specs.TestValue.{content_of}
use Rattle.outcome_texts.specs.Cells.{Cell, NoCell, Open, Settled}
use Rattle.board.specs.declared.operation.BoardOp.{BoardOp}
use Rattle.board.specs.Contents.{cell_named}
use Rattle.board.specs.Operations.{board_after}
use Rattle.board.specs.Legal.{TestsAndModels, texts_after}
use Rattle.board.specs.Results.{IsRightCell}
use Rattle.meaning_laws.specs.Words.{IsTestOfWords}
use Rattle.meaning_outcomes.proofs.Meant.{all_meant}
use Rattle.meaning_edits.specs.Boards.{AreTestsOfWords, IsMeantCell, BoardsAreMeant}

-- what holds of all of a list holds of one of them
holds_of : {X : Type 0} (P : X → Type 0) (xs : List X) (k : ℕ) (x : X) → All P xs
    → slice_get xs k ≡ Some x → P x
holds_of P xs k x all at =
    subst P (get_or_from_slice_get xs k x x at) (all k x (slice_get_within xs k x at))

cell_meant : (h : TestsAndModels) → AreTestsOfWords h → (test model : List ℕ) (c : Cell)
    → IsRightCell h test model c → IsMeantCell h test model c
cell_meant h words test model NoCell right = right
cell_meant h words test model Open right = right
cell_meant h words test model (Settled o) right = record {
  content = right.content;
  under = right.under;
  test_is = right.test_is;
  model_is = right.model_is;
  meant =
      all_meant right.content
      (holds_of (λ (t : Test). IsTestOfWords (content_of t)) h.tests
      (position_or_len (λ (t : Test). bytes_eq t.name test) h.tests) right.content words
      right.test_is)
      right.under.text o right.right;
}

pub all_boards : BoardsAreMeant
all_boards ops words right test model =
    cell_meant (texts_after ops) words test model (cell_named (board_after ops) test model)
    (right test model)
