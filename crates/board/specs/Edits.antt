-- Edits among operations: how many there are, and their numbers.
use Rattle.std.specs.Prelude.{◌≡◌, ℕ, suc, ◌^◌, ◌-◌, min, List, [], ◌∷◌, Some, slice_get}
use Rattle.board.specs.declared.operation.BoardEdit.{BoardEdit}
use Rattle.board.specs.declared.operation.BoardOp.{BoardOp}
use Rattle.board.specs.declared.operation.BoardOp.TheVariants.{Edit, Settle}

-- one more, where the operation is an edit
abbrev pub counted_with : BoardOp → ℕ → ℕ
counted_with (Edit edit) n = suc n
counted_with (Settle at outcome) n = n

-- how many of these operations are edits
abbrev pub edits_in : List BoardOp → ℕ
edits_in [] = 0
edits_in (op ∷ ops) = counted_with op (edits_in ops)

-- so many, as far as a number of 64 bits counts
abbrev pub edit_count : List BoardOp → ℕ
edit_count ops = min (edits_in ops) (2 ^ 64 - 1)

-- no two edits have one number
abbrev pub AreNumbersApart : List BoardOp → Type 0
AreNumbersApart ops =
    (i k : ℕ) (e f : BoardEdit) → slice_get ops i ≡ Some (Edit e) → slice_get ops k ≡ Some (Edit f)
    → e.number ≡ f.number → i ≡ k
