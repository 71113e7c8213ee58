-- Which cells of a board an edit opens, and which it leaves as they are shown. Read it after
-- Results and Histories of `board`.
use Rattle.std.specs.Prelude.{◌≡◌, ◌⊎◌, ⊤, ℕ, List, [], ◌∷◌, ◌++◌, IsTrue, Option, bytes_eq}
use Rattle.std.specs.List.{position_or_len}
use Rattle.outcome_states.specs.declared.answer.Outcome.{Outcome}
use Rattle.outcome_texts.specs.Cells.{Open, Settled}
use Rattle.bench_texts.specs.Edits as edits
use Rattle.bench_texts.specs.Edits.{is_whole}
use Rattle.bench_slices.specs.Reach.{cell_slice, is_of}
use Rattle.bench_slices.specs.Slices.{Slice}
use Rattle.board.specs.declared.operation.BoardEdit.{BoardEdit}
use Rattle.board.specs.declared.operation.BoardOp.{BoardOp}
use Rattle.board.specs.declared.operation.BoardOp.TheVariants.{Edit, Settle}
use Rattle.board.specs.Contents.{cell_named}
use Rattle.board.specs.Histories.{contents_after, IsOperationOf}
use Rattle.board.specs.Legal.{TestsAndModels, texts_after}
use Rattle.board.specs.Operations.{board_after}
use Rattle.board.specs.Results.{HasBoth, test_by_name, model_by_name}

-- the slice of the cell of these names; none, where the texts lack its test or its model
abbrev pub slice_named : TestsAndModels → (test model : List ℕ) → Option Slice
slice_named h test model = cell_slice (test_by_name h test) (model_by_name h model)

-- the indexes of the first test and of the first model of that name, or of what would come behind
-- the last
abbrev pub test_at : TestsAndModels → List ℕ → ℕ
test_at h name = position_or_len (λ t. bytes_eq t.name name) h.tests

abbrev pub model_at : TestsAndModels → List ℕ → ℕ
model_at h name = position_or_len (λ m. bytes_eq m.name name) h.models

-- what the edit of these texts puts or drops is the test or the model of these names, or a part of
-- it
abbrev pub IsOfCell : TestsAndModels → BoardEdit → (test model : List ℕ) → Type 0
IsOfCell h edit test model =
    IsTrue (is_of edit.prepared.value.replacement (test_at h test) (model_at h model))

-- After these operations, the edit puts or drops the test or the model of these names as a whole.
pub record IsPutWhole (ops : List BoardOp) (edit : BoardEdit) (test model : List ℕ) : Type 0 where
  pub made : edits.Edit
  pub is_made : IsOperationOf (contents_after ops) edit made
  pub whole : IsTrue (is_whole made)
  pub of_cell : IsOfCell (texts_after ops) edit test model

-- the operations with that edit as the last
abbrev pub with_edit : List BoardOp → BoardEdit → List BoardOp
with_edit ops edit = ops ++ Edit edit ∷ []

-- the slice of the cell is one before the edit and after it
abbrev pub HasOneSlice : List BoardOp → BoardEdit → (test model : List ℕ) → Type 0
HasOneSlice ops edit test model =
    slice_named (texts_after ops) test model
    ≡ slice_named (texts_after (with_edit ops edit)) test model

-- A cell is shown after the edit as before it, settled with the same outcome or open, where its
-- slice stays what it is and the edit does not put or drop its test or its model as a whole.
abbrev pub KeepsUnreached : List BoardOp → BoardEdit → Type 0
KeepsUnreached ops edit =
    (test model : List ℕ) → HasOneSlice ops edit test model → (IsPutWhole ops edit test model → ⊥)
    → cell_named (board_after (with_edit ops edit)) test model
    ≡ cell_named (board_after ops) test model

-- Each other cell that there is after the edit is shown open.
abbrev pub OpensReached : List BoardOp → BoardEdit → Type 0
OpensReached ops edit =
    (test model : List ℕ) → HasBoth (texts_after (with_edit ops edit)) test model
    → IsPutWhole ops edit test model ⊎ (HasOneSlice ops edit test model → ⊥)
    → cell_named (board_after (with_edit ops edit)) test model ≡ Open

-- ---- over many operations

-- the operation that comes after these settles a cell, or is an edit that does not reach this one
abbrev pub LeavesCell : List BoardOp → BoardOp → (test model : List ℕ) → Type 0
LeavesCell ops (Edit edit) test model =
    HasOneSlice ops edit test model × (IsPutWhole ops edit test model → ⊥)
LeavesCell ops (Settle at outcome) test model = ⊤

-- and so does each of these, one after another
abbrev pub AllLeaveCell : (ops more : List BoardOp) → (test model : List ℕ) → Type 0
AllLeaveCell ops [] test model = ⊤
AllLeaveCell ops (op ∷ more) test model =
    LeavesCell ops op test model × AllLeaveCell (ops ++ op ∷ []) more test model

-- A cell that is shown as settled stays so, with the same outcome, as long as no edit reaches it.
abbrev pub StaysSettled : (ops more : List BoardOp) → Type 0
StaysSettled ops more =
    (test model : List ℕ) (o : Outcome) → AllLeaveCell ops more test model
    → cell_named (board_after ops) test model ≡ Settled o
    → cell_named (board_after (ops ++ more)) test model ≡ Settled o
