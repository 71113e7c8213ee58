use Rattle.std.proofs.Common.{◌≡◌, ◌++◌, map, take}
use Rattle.why_forbidden.specs.Steps.{starts_at}
use Rattle.why_forbidden.specs.Views.{start_of}
use Rattle.why_forbidden.proofs.telling.add_starts.Given as goal

abbrev pub invariant-loop-event : goal.invariant-loop-event
invariant-loop-event l =
    map start_of l.starts.items
    ≡ map start_of l.initial.starts.items ++ starts_at l.code (take l.event-index l.events)
