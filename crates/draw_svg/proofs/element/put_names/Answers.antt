use Rattle.std.proofs.Common.{sym}
use Rattle.draw_svg.proofs.Walks.{names_go, names_stop}
use Rattle.draw_svg.proofs.element.put_names.Goals as goal

pub returns-in-None : goal.returns-in-None
returns-in-None c =
    names_stop c.args.lines.now c.args.arrows.now c.loop-number.number
    c.loop-number.text.items _ (sym c.in-None.ensures) c.loop-number.invariant

pub loop-number-preserved : goal.loop-number-preserved
loop-number-preserved c =
    rw c.in_ok-put_name-in-Some.ensures (names_go c.args.lines.now c.args.arrows.now
    c.loop-number.number c.index-lines-number.result c.in-Some.arrow c.loop-number.text.items _
    c.loop-number-test.true c.index-lines-number.is (sym c.in-Some.ensures) c.loop-number.invariant)
