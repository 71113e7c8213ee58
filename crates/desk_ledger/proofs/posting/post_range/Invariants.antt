use Rattle.std.proofs.Common.{ℕ, ◌<◌, ◌≤◌, length, fold}
use Rattle.cells.specs.Cells.{cells as cells_of}
use Rattle.desk_ledger.specs.Boards.{AreCellsKept}
use Rattle.desk_ledger.specs.Posts.{IsPosted, Posts}
use Rattle.desk_ledger.proofs.posting.post_range.Given as goal

abbrev pub invariant-loop-index : goal.invariant-loop-index
invariant-loop-index g l =
    Posts g.X.BoardTexts.is_settle g.X.BoardTexts.are_after g.X.BoardTexts.last_number
    (λ ops. length (g.X.BoardTexts.cells (fold g.X.Operations.after g.X.Operations.none ops)))
    l.bench.texts l.initial.press l.press
    × ((k : ℕ) → k < l.index → l.initial.index ≤ k
    → IsPosted g.X.Texts.net
    (cells_of g.X.CellTexts.verdict_of g.X.CellTexts.outcome_in
    g.X.CellTexts.from_scratch g.X.CellTexts.reaches) l.bench
    (g.X.BoardTexts.cells (fold g.X.Operations.after g.X.Operations.none l.press.all))
    k)
    × AreCellsKept
    (g.X.BoardTexts.cells (fold g.X.Operations.after g.X.Operations.none l.initial.press.all))
    (g.X.BoardTexts.cells (fold g.X.Operations.after g.X.Operations.none l.press.all))
