use Rattle.std.proofs.Common.{◌≤◌, ◌+◌, length, arith}
use Rattle.tests_layers.proofs.RowLists.{length-cells_of, length-put, length-removed}
use Rattle.tests_layers.proofs.benches.sheet.SheetTexts.commit.Goals as goal

pub returns-in-Put-clause-used : goal.returns-in-Put-clause-used
returns-in-Put-clause-used c =
    let rs = c.args.self.now.rows.items in
    let e : length c.put.new.rows.items ≤ length rs + 1 = rw c.put.ensures (length-put c.in-Put.name c.in-Put.value c.args.number rs) in
    omega (arith, e, length-cells_of c.put.new.rows.items, c.requires.ready.1)

pub returns-in-Remove-clause-used : goal.returns-in-Remove-clause-used
returns-in-Remove-clause-used c =
    let rs = c.args.self.now.rows.items in
    let e : length c.remove.new.rows.items ≤ length rs = rw c.remove.ensures (length-removed c.in-Remove.name rs) in
    omega (arith, e, length-cells_of c.remove.new.rows.items, c.requires.ready.1)

pub returns-then-value-self-clause-used : goal.returns-then-value-self-clause-used
returns-then-value-self-clause-used c =
    omega (arith, length-cells_of c.args.self.now.rows.items, c.requires.ready.1)

pub returns-else-value-self-clause-used : goal.returns-else-value-self-clause-used
returns-else-value-self-clause-used c =
    omega (arith, length-cells_of c.args.self.now.rows.items, c.requires.ready.1)
