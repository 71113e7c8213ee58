use Rattle.std.proofs.Common.{◌≡◌, map, take}
use Rattle.plain_events.specs.Events.{event_as}
use Rattle.plain_executions.specs.Executions.{event_lists_as}
use Rattle.plain_executions.proofs.order.copies.Given as goal

abbrev pub invariant-loop-store : goal.invariant-loop-store
invariant-loop-store l =
    event_lists_as l.lists.items
    ≡ map (λ e. map event_as l.stores) (map event_as (take l.store-index l.stores))
