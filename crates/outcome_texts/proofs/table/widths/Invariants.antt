use Rattle.std.proofs.Common.{◌≡◌, ℕ, take, get_or}
use Rattle.outcome_texts.specs.Columns.{column_width}
use Rattle.outcome_texts.proofs.table.widths.Given as goal

abbrev pub invariant-loop-line : goal.invariant-loop-line
invariant-loop-line l =
    (k : ℕ) → get_or l.widths.items k 0 ≡ column_width (take l.line-index l.lines) k
