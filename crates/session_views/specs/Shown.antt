-- What a board shows of texts.
use Rattle.std.specs.Prelude.{◌≡◌, List}
use Rattle.bench_texts.specs.BenchTexts.{BenchTexts}
use Rattle.board.specs.declared.operation.BoardOp.{BoardOp}
use Rattle.board.specs.Contents.{BoardContent}
use Rattle.board.specs.Operations.{board_after}
use Rattle.board.specs.Legal.{IsLegal}
use Rattle.board.specs.Histories.{contents_after}

-- the board is that after legal operations, and these are the texts after them
pub record ShowsTexts (t : BenchTexts) (b : BoardContent) : Type 0 where
  pub ops : List BoardOp
  pub legal : IsLegal ops
  pub board : b ≡ board_after ops
  pub texts : contents_after ops ≡ t
