use Rattle.std.proofs.Common.{◌≡◌, ℕ, ◌<◌, Some, IsSome, slice_get}
use Rattle.desk_ledger.specs.Boards.{BoardCell}
use Rattle.desk_ledger.proofs.posting.is_settled.Given as goal

abbrev pub invariant-loop-index : goal.invariant-loop-index
invariant-loop-index g l =
    (k : ℕ) → k < l.index → (c : BoardCell _) → slice_get (g.X.BoardTexts.cells l.board) k ≡ Some c
    → IsSome c.outcome
