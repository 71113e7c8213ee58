use Rattle.std.proofs.Common.{map}
use Rattle.text_values.specs.TestValue.{content_of}
use Rattle.meaning.specs.Executions.{MayRead}
use Rattle.plain_runs.specs.Runs.{run_as}
use Rattle.plain_runs.proofs.Counting.{kept_step, kept_end}
use Rattle.plain_events.specs.Events.{event_as, of_runs}
use Rattle.plain_events.proofs.node.sources_among.Goals as goal

pub loop-event-preserved : goal.loop-event-preserved
loop-event-preserved c =
    kept_step event_as
    (MayRead (content_of c.args.test.now) (of_runs (map run_as c.args.runs.now)) (event_as c.args.load.now))
    c.args.all.now c.loop-event.event-index _ c.loop-event.stores.items c.put_if_source.new.stores.items
    c.loop-event-test.true c.requires.once c.loop-event.invariant c.in_ok-put_if_source.ensures

pub returns : goal.returns
returns c =
    kept_end event_as
    (MayRead (content_of c.args.test.now) (of_runs (map run_as c.args.runs.now)) (event_as c.args.load.now))
    c.args.all.now c.loop-event.event-index (map event_as c.loop-event.stores.items) c.loop-event-test.false
    c.loop-event.invariant
