use Rattle.std.proofs.Common.{◌≡◌}
use Rattle.std.specs.Prelude.{Some, slice_get}
use Rattle.meaning.specs.Sets.{IsOnce, IsListOf}
use Rattle.meaning.specs.Executions.{Initial}
use Rattle.plain_runs.proofs.Counting.{Kept}
use Rattle.plain_executions.specs.Executions.{event_lists_as}
use Rattle.plain_executions.proofs.order.orders_among.Given as goal

abbrev pub invariant-loop-list : goal.invariant-loop-list
invariant-loop-list l =
    IsListOf (Kept (λ es. IsOnce es × (slice_get es 0 ≡ Some (Initial l.location))) (event_lists_as l.lists) l.list-index)
    (event_lists_as l.orders.items)
