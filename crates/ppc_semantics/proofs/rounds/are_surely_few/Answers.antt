use Rattle.ppc_semantics.proofs.Bounds.{combinations_within, few_runs}
use Rattle.ppc_semantics.proofs.rounds.are_surely_few.Goals as goal

pub loop-thread-preserved : goal.loop-thread-preserved
loop-thread-preserved c =
    combinations_within c.args.program.now c.loop-thread.thread c.args.values.now _ _ _
    c.loop-thread.invariant
    (few_runs c.args.program.now c.loop-thread.thread c.args.values.now _ _ c.thread_lines.ensures
    (λ first. c.in_ok-count.ensures.few first c.args.values.now c.requires.rising
    c.size_of-size.ensures.within c.size_of-size.ensures.some c.if-count-ge-MANY.false))
    c.saturating_mul-product.ensures
