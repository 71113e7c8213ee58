use Rattle.std.proofs.Common.{arith}
use Rattle.watch_run.proofs.Told.{path_here, path_later, path_nowhere}
use Rattle.watch_run.proofs.telling.index_of.Goals as goal

pub returns-then-eq-clause-at : goal.returns-then-eq-clause-at
returns-then-eq-clause-at c =
    path_here c.args.paths.now c.args.path.now c.loop-index.index _ c.eq.result
    c.loop-index-test.true c.eq.ensures c.if-eq.true

pub loop-index-preserved : goal.loop-index-preserved
loop-index-preserved c =
    path_later c.args.paths.now c.args.path.now c.loop-index.index _ c.eq.result
    c.loop-index-test.true c.eq.ensures c.if-eq.false c.loop-index.invariant

pub returns-clause-none : goal.returns-clause-none
returns-clause-none c =
    path_nowhere c.args.paths.now c.args.path.now c.loop-index.index (omega arith)
    c.loop-index.invariant
