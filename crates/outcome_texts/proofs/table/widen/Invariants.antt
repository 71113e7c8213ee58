use Rattle.std.proofs.Common.{◌≡◌, ℕ, ◌≤◌, take, max, get_or, length}
use Rattle.outcome_texts.specs.Columns.{field_width}
use Rattle.outcome_texts.proofs.table.widen.Given as goal

-- the columns before this one are wide enough for the line
abbrev pub invariant-loop-column : goal.invariant-loop-column
invariant-loop-column l =
    (l.column ≤ length l.widths.items)
    × ((k : ℕ)
    → get_or l.widths.items k 0
    ≡ max (get_or l.initial.widths.items k 0)
    (field_width (take l.column l.line) k))
