use Rattle.std.proofs.Common.{◌≡◌, take}
use Rattle.store_orders.specs.Events.{thread_events}
use Rattle.run_combinations.proofs.part.events_of.Given as goal

abbrev pub invariant-loop-event : goal.invariant-loop-event
invariant-loop-event l = l.events.items ≡ thread_events l.thread (take l.event-index l.event-items)
