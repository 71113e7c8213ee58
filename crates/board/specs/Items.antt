-- What is promised of the items that a board shows of a model.
use Rattle.std.specs.Prelude.{◌≡◌, ℕ, List, Option, option_map}
use Rattle.board.specs.declared.operation.BoardOp.{BoardOp}
use Rattle.board.specs.Contents.{shown_items}
use Rattle.board.specs.Operations.{board_after}
use Rattle.board.specs.Legal.{TestsAndModels, texts_after}
use Rattle.board.specs.Right.{printed_of}
use Rattle.board.specs.Results.{model_by_name}

-- the items of the model of that name in these texts, with their numbers, one on each line; none
-- without such a model
abbrev pub printed_in : TestsAndModels → List ℕ → Option (List ℕ)
printed_in h model = option_map printed_of (model_by_name h model)

-- after these operations the items of each model, asked for by its name, are those of the texts
-- after them
abbrev pub ShowsRightItems : List BoardOp → Type 0
ShowsRightItems ops =
    (model : List ℕ) → shown_items (board_after ops) model ≡ printed_in (texts_after ops) model
