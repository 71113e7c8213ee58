use Rattle.thread_runs.specs.AllRuns.{gone_over}
use Rattle.thread_runs.proofs.MapInPlace.{map_more}
use Rattle.thread_runs.proofs.enumerate.go_over_all.Goals as goal

pub loop-beginning-preserved : goal.loop-beginning-preserved
loop-beginning-preserved c =
    map_more (gone_over c.args.line) c.deref_mut-beginning-items.result.now
    c.loop-beginning.beginning-items c.loop-beginning.beginning-index _ c.go_over.new.self
    c.loop-beginning-test.true c.loop-beginning.invariant (c.in_ok-go_over.ensures {u = tt})
