use Rattle.std.proofs.Common.{◌≡◌, map, take, length}
use Rattle.plain_executions.specs.Executions.{order_lists_as}
use Rattle.plain_executions.proofs.picked_orders.order_counts.Given as goal

abbrev pub invariant-loop-list : goal.invariant-loop-list
invariant-loop-list l =
    l.counts.items ≡ map (λ es. length es) (order_lists_as (take l.list-index l.lists))
