use Rattle.std.proofs.Common.{take}
use Rattle.plain_events.specs.Events.{event_as}
use Rattle.plain_executions.specs.Executions.{event_lists_as}
use Rattle.plain_names.specs.Related.{AreOrdered}
use Rattle.plain_names.proofs.related.is_coherent.Given as goal

abbrev pub invariant-loop-order : goal.invariant-loop-order
invariant-loop-order l =
    AreOrdered (take l.order-index (event_lists_as l.orders)) (event_as l.first) (event_as l.second) → ⊥
