use Rattle.std.proofs.Common.{sym}
use Rattle.draw_svg.proofs.Walks.{grounds_go, grounds_stop}
use Rattle.draw_svg.proofs.element.put_grounds.Goals as goal

pub returns-in-None : goal.returns-in-None
returns-in-None c =
    grounds_stop c.args.layout.now c.args.threads.now c.args.layout.now.lefts.items c.loop-thread.thread
    c.loop-thread.text.items _ (sym c.in-None.ensures) c.loop-thread.invariant

pub loop-thread-preserved : goal.loop-thread-preserved
loop-thread-preserved c =
    rw c.in_ok-put_ground-in-Some.ensures (grounds_go c.args.layout.now c.args.threads.now c.args.layout.now.lefts.items
    c.loop-thread.thread c.index-threads-thread.result c.in-Some.left c.loop-thread.text.items _
    c.loop-thread-test.true c.index-threads-thread.is (sym c.in-Some.ensures) c.loop-thread.invariant)
