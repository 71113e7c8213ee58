use Rattle.std.proofs.Common.{◌≡◌, map, drop}
use Rattle.why_forbidden.specs.Steps.{with_events}
use Rattle.why_forbidden.specs.Views.{start_of}
use Rattle.why_forbidden.proofs.telling.add_events.Given as goal

abbrev pub invariant-loop-start : goal.invariant-loop-start
invariant-loop-start l =
    with_events l.numbers.items (map start_of (drop l.start-index l.starts))
    ≡ with_events l.initial.numbers.items (map start_of l.starts)
