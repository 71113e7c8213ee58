use Rattle.std.proofs.lemmas.Bool.{iff_false}
use Rattle.plain_events.specs.Events.{event_as}
use Rattle.plain_executions.proofs.Ordering.{once_twice, once_more}
use Rattle.plain_executions.proofs.order.+is_once.Goals as goal

pub returns-then-has_event : goal.returns-then-has_event
returns-then-has_event t c =
    once_twice event_as c.args.order.now c.in-Some.event.now c.in-Some.rest.now
    c.in-Some.ensures.cases.0 (c.has_event.ensures.0 c.if-has_event.true)

pub returns-else-has_event : goal.returns-else-has_event
returns-else-has_event t c =
    once_more event_as c.args.order.now c.in-Some.event.now c.in-Some.rest.now c.is_once.result
    c.in-Some.ensures.cases.0 (iff_false c.has_event.ensures c.if-has_event.false) c.is_once.ensures
