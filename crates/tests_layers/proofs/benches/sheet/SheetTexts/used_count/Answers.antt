use Rattle.std.proofs.Common.{arith}
use Rattle.tests_layers.proofs.RowLists.{length-cells_of}
use Rattle.tests_layers.proofs.benches.sheet.SheetTexts.used_count.Goals as goal

pub returns : goal.returns
returns c =
    omega (
      arith,
      length-cells_of c.args.self.now.rows.items,
      c.args.self.now.rows.ok.0,
      c.len.ensures,
    )
