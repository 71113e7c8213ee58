use Rattle.std.proofs.Common.{arith, refl}
use Rattle.ppc_semantics.proofs.Bounds.{few_more, many_runs}
use Rattle.ppc_semantics.proofs.rounds.check_round.Goals as goal

pub loop-thread-preserved : goal.loop-thread-preserved
loop-thread-preserved c =
    few_more c.args.program.now c.args.values.now c.loop-thread.thread _ c.loop-thread.invariant
    (c.in-Ok.ensures.counted c.args.values.now c.requires.rising refl) c.if-count-ge-MANY.false

pub returns-then-count-ge-MANY-clause-fault : goal.returns-then-count-ge-MANY-clause-fault
returns-then-count-ge-MANY-clause-fault c =
    many_runs c.args.program.now c.args.values.now c.loop-thread.thread _ (omega arith)
    (omega (arith, c.len-thread-end.ensures))
    (c.in-Ok.ensures.counted c.args.values.now c.requires.rising refl) c.if-count-ge-MANY.true
