use Rattle.std.proofs.Common.{◌≡◌, ◌-◌, ◌^◌, min, take}
use Rattle.store_orders.specs.OrderPrefixes.{store_lists, width_of}
use Rattle.store_orders.proofs.orders.width_of.Given as goal

abbrev pub invariant-loop-location : goal.invariant-loop-location
invariant-loop-location l =
    l.width ≡ min (width_of (store_lists (take l.location-index l.locations))) (2 ^ 64 - 1)
