-- The cells of one test or of one model, and those of some cells that an edit reaches. Read Legal
-- first.
use Rattle.std.specs.Prelude.{◌≡◌, ℕ, List, [], ◌∷◌, ◌++◌, Bool, Contains}
use Rattle.bench_texts.specs.declared.replacement.Replacement.{Replacement}
use Rattle.board.specs.declared.operation.CellIndex.{CellIndex}
use Rattle.board.specs.Legal.{TestsAndModels, board_slice_before, board_slice_after, IsCellReached}

abbrev pub test_cell : ℕ → ℕ → CellIndex
test_cell test model = record { test = test; model = model }

abbrev pub model_cell : ℕ → ℕ → CellIndex
model_cell model test = record { test = test; model = model }

-- of these cells just those are listed that the edit reaches; each other one has one slice before
-- the edit and after it
pub record ListsAmong (h : TestsAndModels) (whole : Bool) (r : Replacement)
    (line cells : List CellIndex)
    : Type 0 where
  pub inside : (c : CellIndex) → Contains cells c
      → Contains line c × IsCellReached h whole r c.test c.model
  pub kept : (c : CellIndex) → Contains line c → (Contains cells c → ⊥)
      → board_slice_before h c.test c.model ≡ board_slice_after h r c.test c.model
  pub listed : (c : CellIndex) → Contains line c → IsCellReached h whole r c.test c.model
      → Contains cells c

-- the list has one cell more, where the edit reaches it
abbrev pub ListsOneMore : TestsAndModels → (whole : Bool) → Replacement → CellIndex
    → (old new : List CellIndex) → Type 0
ListsOneMore h whole r c old new =
    (line : List CellIndex) → ListsAmong h whole r line old
    → ListsAmong h whole r (line ++ c ∷ []) new
