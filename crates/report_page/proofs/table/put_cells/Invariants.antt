use Rattle.std.proofs.Common.{◌≡◌, ◌++◌, drop}
use Rattle.report_page.specs.Table.{cells_text}
use Rattle.report_page.proofs.table.put_cells.Given as goal

-- what is written, with what is left to write, is all
abbrev pub invariant-loop-model : goal.invariant-loop-model
invariant-loop-model l =
    l.text.items ++ cells_text l.is_apart (drop l.model l.outcomes) (drop l.model l.groups)
    ≡ l.initial.text.items ++ cells_text l.is_apart l.outcomes l.groups
