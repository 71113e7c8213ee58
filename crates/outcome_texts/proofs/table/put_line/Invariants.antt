use Rattle.std.proofs.Common.{◌≡◌, ◌++◌, drop}
use Rattle.std.specs.Prelude.{slice_index}
use Rattle.outcome_texts.specs.Columns.{line_from}
use Rattle.outcome_texts.proofs.table.put_line.Given as goal

-- what is printed, with what is left to print, is the line
abbrev pub invariant-loop-column : goal.invariant-loop-column
invariant-loop-column l =
    l.text.items ++ line_from (slice_index l.widths) l.column (drop l.column l.line)
    ≡ l.initial.text.items ++ line_from (slice_index l.widths) 0 l.line
