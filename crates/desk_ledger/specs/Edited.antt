-- What an edit made of the texts, and what was posted before it. Read it after Boards.
use Rattle.std.specs.Prelude.{◌≡◌, ℕ, List, [], ◌∷◌, ◌++◌}
use Rattle.memo_core.specs.Run.{Bench, TextsMeaning, Step, Edit}
use Rattle.cells.specs.Cells.{Cells}
use Rattle.desk_ledger.specs.Boards.{BoardCell, ArePosted}

-- The texts came of an edit of those before it, which were those after some operations. Its own
-- operation was appended.
pub record IsEditOf {T E P O : Type 0} (is_valid : T → Type 0) (are_after : T → List O → Type 0)
    (prepares : T → E → P → T → Type 0) (announces : T → P → ℕ → O → Type 0)
    (commits : T → P → ℕ → T → Type 0) (before : T) (edit : E) (number : ℕ) (ops all : List O)
    (now : T) : Type 0 where
  pub valid : is_valid before
  pub after : are_after before ops
  pub ready : T
  pub prepared : P
  pub op : O
  pub prepares_it : prepares before edit prepared ready
  pub announced : announces ready prepared number op
  pub commits_it : commits ready prepared number now
  pub list : all ≡ ops ++ op ∷ []

-- the bench came of one of whose settled cells each was settled on the board, by such an edit
pub record IsEditOfPosted {T E P V G C O : Type 0} (means : TextsMeaning T E V G)
    (of : Cells T E V C) (are_after : T → List O → Type 0) (prepares : T → E → P → T → Type 0)
    (announces : T → P → ℕ → O → Type 0) (commits : T → P → ℕ → T → Type 0)
    (cells : List O → List (BoardCell C)) (all : List O) (now : Bench T V) : Type 0 where
  pub before : Bench T V
  pub edit : E
  pub number : ℕ
  pub ops : List O
  pub step : Step means before (Edit edit) now
  pub made : IsEditOf means.is_valid are_after prepares announces commits before.texts edit number
      ops all now.texts
  pub posted : ArePosted means.net of before (cells ops)
