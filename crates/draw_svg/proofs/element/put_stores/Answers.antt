use Rattle.std.proofs.Common.{sym}
use Rattle.draw_svg.proofs.Walks.{stores_go, stores_stop}
use Rattle.draw_svg.proofs.element.put_stores.Goals as goal

pub returns-in-None : goal.returns-in-None
returns-in-None c =
    stores_stop c.args.layout.now c.args.labels.now c.args.layout.now.lefts.items c.loop-column.column
    c.loop-column.text.items _ (sym c.in-None.ensures) c.loop-column.invariant

pub loop-column-preserved : goal.loop-column-preserved
loop-column-preserved c =
    rw c.in_ok-put_box-in-Some.ensures (stores_go c.args.layout.now c.args.labels.now c.args.layout.now.lefts.items
    c.loop-column.column c.index-labels-column.result c.in-Some.left c.loop-column.text.items _
    c.loop-column-test.true c.index-labels-column.is (sym c.in-Some.ensures) c.loop-column.invariant)
