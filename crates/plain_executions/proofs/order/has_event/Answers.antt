use Rattle.std.proofs.lemmas.Bool.{iff_false}
use Rattle.plain_events.specs.Events.{event_as}
use Rattle.plain_runs.proofs.Mapping.{none_more, none_all}
use Rattle.plain_executions.proofs.Depending.{no}
use Rattle.plain_executions.proofs.order.has_event.Goals as goal

pub loop-one-preserved : goal.loop-one-preserved
loop-one-preserved c =
    none_more event_as c.args.order.now c.loop-one.one-index _ (event_as c.args.event.now)
    c.loop-one-test.true (iff_false c.is_same_event.ensures c.if-is_same_event.false)
    c.loop-one.invariant

pub returns : goal.returns
returns c =
    no (none_all event_as c.args.order.now c.loop-one.one-index (event_as c.args.event.now) c.loop-one-test.false c.loop-one.invariant)
