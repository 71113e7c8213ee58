use Rattle.std.proofs.Common.{◌≡◌, ◌∙◌, true, sym, arith}
use Rattle.memo_core.specs.Names.{same_node}
use Rattle.tests_layers.specs.Sheet.{tens}
use Rattle.tests_layers.proofs.RowLists.{length-cells_of}
use Rattle.tests_layers.proofs.benches.sheet.SheetTexts.user_count.Goals as goal

pub returns-then-is_same_node : goal.returns-then-is_same_node
returns-then-is_same_node c =
    let t : same_node c.args.node tens ≡ true = sym c.is_same_node.ensures ∙ c.if-is_same_node.true in
    rw t (omega (
      arith,
      length-cells_of c.args.self.now.rows.items,
      c.args.self.now.rows.ok.0,
      c.len.ensures,
    ))
