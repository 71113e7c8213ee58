use Rattle.std.proofs.Common.{arith}
use Rattle.run_combinations.proofs.Pruning.{stores_more}
use Rattle.run_combinations.proofs.search.stores_of.Goals as goal

pub loop-thread-preserved : goal.loop-thread-preserved
loop-thread-preserved c =
    stores_more c.args.threads.now c.loop-thread.thread-index c.thread-item.result
    c.loop-thread.stores c.join.new.self (omega arith) c.thread-item.is c.loop-thread.invariant
    c.join.ensures
