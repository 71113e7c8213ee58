use Rattle.ppc_semantics.proofs.Bounds.{combinations_more}
use Rattle.ppc_semantics.proofs.rounds.count_combinations.Goals as goal

pub loop-thread-preserved : goal.loop-thread-preserved
loop-thread-preserved c =
    combinations_more c.args.program.now c.loop-thread.thread c.args.values.now _ _ _
    c.loop-thread.invariant c.in-Ok.ensures.counted c.saturating_mul-product.ensures
