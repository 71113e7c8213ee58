use Rattle.std.proofs.Common.{◌∙◌, ap, sym, Some, Option, ◌∷◌, drop, ◌+◌, arith}
use Rattle.memo_core.specs.declared.keys.Node.{Node}
use Rattle.tests_layers.specs.declared.benches.rows.Row.{Row}
use Rattle.tests_layers.specs.Sheet.{tens, cell_of, cells_of}
use Rattle.tests_layers.proofs.RowLists.{length-cells_of, cell_used_at, cells_used_from}
use Rattle.tests_layers.proofs.benches.sheet.SheetTexts.used_at.Goals as goal

pub index-requires : goal.index-requires
index-requires c =
    omega (
      arith,
      length-cells_of c.args.self.now.rows.items,
      c.args.self.now.rows.ok.0,
      c.requires,
      c.if-i-eq0.false,
    )

pub returns-else-i-eq0-clause-at : goal.returns-else-i-eq0-clause-at
returns-else-i-eq0-clause-at c =
    cell_used_at c.args.self.now.rows.items c.args.i c.index.result.now
    (omega (arith, c.if-i-eq0.false)) (omega (
      arith,
      length-cells_of c.args.self.now.rows.items,
      c.requires,
    ))
    ∙ ap (λ (r : Row). let o : Option Node = Some (cell_of r.name) in o) (sym c.index.ensures)
    ∙ ap (λ (n : Node). let o : Option Node = Some n in o) (sym c.cell.ensures)

pub returns-else-i-eq0-clause-rest : goal.returns-else-i-eq0-clause-rest
returns-else-i-eq0-clause-rest c =
    cells_used_from c.args.self.now.rows.items c.args.i c.index.result.now
    (omega (arith, c.if-i-eq0.false)) (omega (
      arith,
      length-cells_of c.args.self.now.rows.items,
      c.requires,
    ))
    ∙ ap
    (λ (r : Row). cell_of r.name
    ∷ drop (c.args.i + 1) (tens ∷ cells_of c.args.self.now.rows.items))
    (sym c.index.ensures)
    ∙ ap (λ (n : Node). n ∷ drop (c.args.i + 1) (tens ∷ cells_of c.args.self.now.rows.items))
    (sym c.cell.ensures)
