use Rattle.std.proofs.Common.{◌≡◌, map, take}
use Rattle.plain_events.specs.Choices.{pick, lists_as}
use Rattle.plain_executions.specs.Executions.{order_lists_as}
use Rattle.plain_executions.proofs.picked_orders.all_picked_orders.Given as goal

abbrev pub invariant-loop-indexes : goal.invariant-loop-indexes
invariant-loop-indexes l =
    order_lists_as l.rows.items ≡ map (pick (order_lists_as l.lists)) (lists_as (take l.indexes-index l.all))
