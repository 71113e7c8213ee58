-- What is promised of the outcomes that a board shows, of the names beside them, and of the items
-- of its models.
use Rattle.std.specs.Prelude.{◌≡◌, ℕ, List, map, Some}
use Rattle.outcome_states.specs.declared.answer.Outcome.{Outcome}
use Rattle.bench_texts.specs.declared.model.NamedModel.{NamedModel}
use Rattle.bench_texts.specs.Held.{plain_model}
use Rattle.bench_texts.specs.Printed.{printed_items}
use Rattle.board.specs.declared.operation.BoardOp.{BoardOp}
use Rattle.board.specs.Contents.{cell_at}
use Rattle.board.specs.Operations.{board_after}
use Rattle.board.specs.Legal.{texts_after, IsRightAt}

-- each settled cell has the outcome of its test under its model in the texts at that moment
abbrev pub OutcomesAreRight : List BoardOp → Type 0
OutcomesAreRight ops =
    (i j : ℕ) (outcome : Outcome) → cell_at (board_after ops).rows i j ≡ Some (Some outcome)
    → IsRightAt (texts_after ops) i j outcome

-- the names of the board are those of the texts, in their orders
pub record HasNamesOf (ops : List BoardOp) : Type 0 where
  pub tests : map (λ r. r.name) (board_after ops).rows ≡ map (λ t. t.name) (texts_after ops).tests
  pub models : map (λ c. c.name) (board_after ops).columns
      ≡ map (λ m. m.name) (texts_after ops).models

-- the items of a model with their numbers, one on each line
abbrev pub printed_of : NamedModel → List ℕ
printed_of m = printed_items (plain_model m).items

-- the items of the board's models are those of the models of the texts, in their order
abbrev pub HasItemsOf : List BoardOp → Type 0
HasItemsOf ops =
    map (λ c. c.items) (board_after ops).columns ≡ map printed_of (texts_after ops).models
