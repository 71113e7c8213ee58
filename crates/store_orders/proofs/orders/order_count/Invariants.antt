use Rattle.std.proofs.Common.{◌≡◌, ◌-◌, ◌^◌, min, length}
use Rattle.store_orders.specs.Orders.{AreInitialStoresApart, all_orders}
use Rattle.store_orders.proofs.orders.order_count.Given as goal

abbrev pub invariant-loop-location : goal.invariant-loop-location
invariant-loop-location l =
    AreInitialStoresApart l.events l.location
    → l.count ≡ min (length (all_orders l.events l.location)) (2 ^ 64 - 1)
