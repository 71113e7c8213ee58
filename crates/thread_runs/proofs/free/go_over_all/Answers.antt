use Rattle.thread_runs.specs.FreeWalks.{over}
use Rattle.thread_runs.proofs.MapInPlace.{map_more}
use Rattle.thread_runs.proofs.free.go_over_all.Goals as goal

pub loop-walk-preserved : goal.loop-walk-preserved
loop-walk-preserved c =
    map_more (over c.args.line) c.deref_mut-walk-items.result.now c.loop-walk.walk-items
    c.loop-walk.walk-index _ c.go_over.new.self
    c.loop-walk-test.true c.loop-walk.invariant c.go_over.ensures
