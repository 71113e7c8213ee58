use Rattle.std.proofs.Common.{◌≡◌, take, length}
use Rattle.store_orders.specs.Events.{numbers}
use Rattle.store_orders.specs.Orders.{is_thread_store}
use Rattle.store_orders.proofs.orders.store_count.Given as goal

abbrev pub invariant-loop-number : goal.invariant-loop-number
invariant-loop-number l =
    l.count ≡ length (numbers (is_thread_store l.location) 0 (take l.number l.events))
