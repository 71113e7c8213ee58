use Rattle.std.proofs.Common.{◌≡◌, ◌++◌, take}
use Rattle.std.specs.Prelude.{slice_index}
use Rattle.std.specs.List.{flat_map}
use Rattle.outcome_texts.specs.Columns.{line_from}
use Rattle.outcome_texts.proofs.table.put_lines.Given as goal

abbrev pub invariant-loop-line : goal.invariant-loop-line
invariant-loop-line l =
    l.text.items
    ≡ l.initial.text.items
    ++ flat_map (line_from (slice_index l.widths) 0) (take l.line-index l.lines)
