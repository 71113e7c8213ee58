use Rattle.plain_events.specs.Events.{event_as}
use Rattle.plain_names.proofs.Relating.{stands_answer}
use Rattle.plain_names.proofs.related.+stands_before.Goals as goal

pub returns-in-Some : goal.returns-in-Some
returns-in-Some t c =
    stands_answer c.args.order.now c.in-Some.rest.now c.in-Some.event.now (event_as c.args.first.now)
    (event_as c.args.second.now) c.is_same_event-same.result c.has_event-has.result
    c.both-begins.result c.stands_before-later.result c.either.result c.in-Some.ensures.cases.0
    c.is_same_event-same.ensures c.has_event-has.ensures c.both-begins.ensures
    c.stands_before-later.ensures c.either.ensures
