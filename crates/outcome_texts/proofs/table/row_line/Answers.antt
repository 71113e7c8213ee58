use Rattle.std.proofs.Common.{◌<◌, ◌∷◌, length, map, rules, ap, ◌∙◌, arith}
use Rattle.std.proofs.lemmas.List.{take_all}
use Rattle.outcome_texts.specs.Cells.{cell_of, cell_field}
use Rattle.outcome_texts.proofs.Loops.{mapped_more}
use Rattle.outcome_texts.proofs.table.row_line.Goals as goal

pub loop-cell-preserved : goal.loop-cell-preserved
loop-cell-preserved c =
    let inside : c.loop-cell.cell-index < length c.args.row.now.cells.items = omega (arith, c.loop-cell-test.true) in
    mapped_more cell_field cell_of c.args.row.now.name.now _ _ c.args.row.now.cells.items
    c.loop-cell.cell-index c.cell-item.result inside (search rules) c.loop-cell.invariant
    (search rules)

pub returns : goal.returns
returns c =
    c.loop-cell.invariant
    ∙ ap (λ cs. c.args.row.now.name.now ∷ map cell_field (map cell_of cs)) (take_all
    c.loop-cell.cell-index c.args.row.now.cells.items
    (omega (arith, c.loop-cell-test.false)))
