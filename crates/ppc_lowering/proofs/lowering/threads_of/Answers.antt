use Rattle.std.proofs.Common.{rules}
use Rattle.ppc_lowering.proofs.Starting.{threads_more}
use Rattle.ppc_lowering.proofs.lowering.threads_of.Goals as goal

pub loop-thread-preserved : goal.loop-thread-preserved
loop-thread-preserved c =
    threads_more c.args.threads.now c.loop-thread.thread-index c.thread-item.result
    c.in_ok-lines.lines _ _ c.loop-thread-test.true (search rules) c.loop-thread.invariant
    (search rules) c.in_ok-push.ensures.items
