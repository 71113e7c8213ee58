use Rattle.std.proofs.Common.{map}
use Rattle.text_values.specs.TestValue.{content_of}
use Rattle.meaning.specs.Executions.{IsStoreOf}
use Rattle.plain_runs.specs.Runs.{run_as}
use Rattle.plain_runs.proofs.Counting.{kept_step, kept_end}
use Rattle.plain_events.specs.Events.{event_as, of_runs}
use Rattle.plain_events.proofs.node.stores_among.Goals as goal

pub loop-event-preserved : goal.loop-event-preserved
loop-event-preserved c =
    kept_step event_as
    (IsStoreOf (content_of c.args.test.now) (of_runs (map run_as c.args.runs.now)) c.args.location.now)
    c.args.all.now c.loop-event.event-index _ c.loop-event.stores.items c.put_if_store.new.stores.items
    c.loop-event-test.true c.requires.once c.loop-event.invariant c.in_ok-put_if_store.ensures

pub returns : goal.returns
returns c =
    kept_end event_as
    (IsStoreOf (content_of c.args.test.now) (of_runs (map run_as c.args.runs.now)) c.args.location.now)
    c.args.all.now c.loop-event.event-index (map event_as c.loop-event.stores.items) c.loop-event-test.false
    c.loop-event.invariant
