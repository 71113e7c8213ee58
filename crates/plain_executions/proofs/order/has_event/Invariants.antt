use Rattle.std.proofs.Common.{map, take, Contains}
use Rattle.plain_events.specs.Events.{event_as}
use Rattle.plain_executions.proofs.order.has_event.Given as goal

abbrev pub invariant-loop-one : goal.invariant-loop-one
invariant-loop-one l = Contains (take l.one-index (map event_as l.order)) (event_as l.event) → ⊥
