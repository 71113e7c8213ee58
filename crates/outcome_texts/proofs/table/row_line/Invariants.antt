use Rattle.std.proofs.Common.{◌≡◌, ◌∷◌, take, map}
use Rattle.outcome_texts.specs.Cells.{cell_of, cell_field}
use Rattle.outcome_texts.proofs.table.row_line.Given as goal

abbrev pub invariant-loop-cell : goal.invariant-loop-cell
invariant-loop-cell l =
    l.fields.items
    ≡ l.row.name.now ∷ map cell_field (map cell_of (take l.cell-index l.row.cells.items))
