use Rattle.std.proofs.Common.{◌≡◌, ◌++◌, take}
use Rattle.std.specs.List.{flat_map}
use Rattle.why_text.specs.Events.{event_line}
use Rattle.why_text.proofs.event.put_events.Given as goal

abbrev pub invariant-loop-event : goal.invariant-loop-event
invariant-loop-event l =
    l.text.items
    ≡ l.initial.text.items
    ++ flat_map (event_line l.telling.shows l.telling.locations.now l.telling.initial_count)
    (take l.event-index l.events)
