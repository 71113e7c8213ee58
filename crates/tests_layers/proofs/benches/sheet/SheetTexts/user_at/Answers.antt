use Rattle.std.proofs.Common.{◌≡◌, ◌∙◌, true, ap, sym, Some, Option, ◌∷◌, drop, ◌+◌, arith}
use Rattle.memo_core.specs.declared.keys.Node.{Node}
use Rattle.memo_core.specs.Names.{same_node}
use Rattle.tests_layers.specs.declared.benches.rows.Row.{Row}
use Rattle.tests_layers.specs.Sheet.{tens, cell_of, cells_of}
use Rattle.tests_layers.proofs.RowLists.{length-cells_of, cell_at, cells_from}
use Rattle.tests_layers.proofs.benches.sheet.SheetTexts.user_at.Goals as goal

pub index-requires : goal.index-requires
index-requires c =
    let t : same_node c.args.node tens ≡ true = sym c.is_same_node.ensures ∙ c.if-is_same_node.true in
    omega (
      arith,
      length-cells_of c.args.self.now.rows.items,
      c.args.self.now.rows.ok.0,
      rw t at c.requires,
    )

pub returns-clause-at : goal.returns-clause-at
returns-clause-at c =
    let t : same_node c.args.node tens ≡ true = sym c.is_same_node.ensures ∙ c.if-is_same_node.true in
    rw t (
    cell_at c.args.self.now.rows.items c.args.i c.index.result.now (omega
    (arith, length-cells_of c.args.self.now.rows.items, rw t at c.requires))
    ∙ ap (λ (r : Row). let o : Option Node = Some (cell_of r.name) in o) (sym c.index.ensures)
    ∙ ap (λ (n : Node). let o : Option Node = Some n in o) (sym c.cell.ensures))

pub returns-clause-rest : goal.returns-clause-rest
returns-clause-rest c =
    let t : same_node c.args.node tens ≡ true = sym c.is_same_node.ensures ∙ c.if-is_same_node.true in
    rw t (
    cells_from c.args.self.now.rows.items c.args.i c.index.result.now (omega
    (arith, length-cells_of c.args.self.now.rows.items, rw t at c.requires))
    ∙ ap (λ (r : Row). cell_of r.name ∷ drop (c.args.i + 1) (cells_of c.args.self.now.rows.items))
    (sym c.index.ensures)
    ∙ ap (λ (n : Node). n ∷ drop (c.args.i + 1) (cells_of c.args.self.now.rows.items))
    (sym c.cell.ensures))
