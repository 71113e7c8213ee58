-- Cells that the desk lists as settled, and what is shown of them. Read board's Results first.
use Rattle.std.specs.Prelude.{◌≡◌, ℕ, List}
use Rattle.outcome_states.specs.declared.answer.Outcome.{Outcome}
use Rattle.outcome_texts.specs.Cells.{Settled}
use Rattle.desk_ledger.specs.Boards.{AreSettled, IsSettledOn}
use Rattle.board.specs.declared.operation.BoardOp.{BoardOp}
use Rattle.board.specs.Contents.{cell_named}
use Rattle.board.specs.Operations.{board_after}
use Rattle.board.specs.Legal.{texts_after}
use Rattle.bench_instance.specs.declared.stamped_texts.StampedTexts.{StampedTexts}
use Rattle.bench_instance.specs.StampedCells.{cell_from_scratch}
use Rattle.bench_instance.specs.Cells.{IsCountable, board_cells}
use Rattle.board.specs.Results.{HasBoth, IsResultIn}

-- each test under each model is shown with its result
abbrev pub ShowsEachResult : List BoardOp → Type 0
ShowsEachResult ops =
    (test model : List ℕ) → HasBoth (texts_after ops) test model
    → (o : Outcome) × (cell_named (board_after ops) test model ≡ Settled o)
    × IsResultIn (texts_after ops) test model o

-- where every cell that the desk lists is settled, each result is shown: a desk lists the cells
-- that a number of 64 bits counts
abbrev pub SettledIsShown : List BoardOp → Type 0
SettledIsShown ops =
    IsCountable (board_after ops) → AreSettled (board_cells (board_after ops)) → ShowsEachResult ops

-- a cell that the desk lists as settled is shown with what the texts of the bench give from nothing
abbrev pub PostedIsShown : StampedTexts → List BoardOp → Type 0
PostedIsShown t ops =
    (test model : List ℕ) (o : Outcome) → cell_from_scratch t test model o
    → IsSettledOn (board_cells (board_after ops)) test model
    → cell_named (board_after ops) test model ≡ Settled o
