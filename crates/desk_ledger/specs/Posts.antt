-- Settled cells that are appended. Read after Boards.
use Rattle.std.specs.Prelude.{◌≡◌, ℕ, List, ◌++◌, Some, IsSome, slice_get}
use Rattle.std.specs.List.{AllByRecursion as Each}
use Rattle.desk_history.specs.Histories.{Pressed}
use Rattle.memo_core.specs.Graph.{Net}
use Rattle.memo_core.specs.Run.{Bench}
use Rattle.cells.specs.Cells.{Cells, IsSettledCell}
use Rattle.desk_ledger.specs.Boards.{BoardCell}

-- the cell at the index is settled on the board, if it is on the bench
abbrev pub IsPosted : {T E V G O : Type 0} → (T → Net G) → Cells T E V O → Bench T V
    → List (BoardCell O) → ℕ → Type 0
IsPosted {T} {E} {V} {G} {O} net of bench cells index =
    (c : BoardCell O) (o : O) → slice_get cells index ≡ Some c
    → IsSettledCell net of bench c.test c.model o → IsSome c.outcome

-- the operation settles the cell at the index with what evaluating it from nothing gives
pub record SettlesRight {B O P : Type 0} (settles : B → ℕ → O → P → Type 0)
    (from_scratch : List ℕ → List ℕ → O → Type 0) (board : B) (cells : List (BoardCell O))
    (index : ℕ) (op : P) : Type 0 where
  pub outcome : O
  pub op_is : settles board index outcome op
  pub right : (c : BoardCell O) → slice_get cells index ≡ Some c
      → from_scratch c.test c.model outcome

-- some settled cells were appended, and nothing is published
pub record Posts {T O : Type 0} (is_settle : O → Type 0) (are_after : T → List O → Type 0)
    (last_number : List O → ℕ) (count : List O → ℕ) (texts : T) (old new : Pressed O) : Type 0 where
  pub more : List O
  pub are_settles : Each is_settle more
  pub all : new.all ≡ old.all ++ more
  pub published : new.published ≡ old.published
  pub after : are_after texts new.all
  pub number : last_number new.all ≡ last_number old.all
  pub cells : count new.all ≡ count old.all
