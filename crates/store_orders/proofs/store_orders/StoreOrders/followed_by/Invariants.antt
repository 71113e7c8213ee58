use Rattle.std.proofs.Common.{◌≡◌, take}
use Rattle.std.specs.List.{concat, flat_map}
use Rattle.store_orders.specs.Lists.{each_behind}
use Rattle.store_orders.proofs.store_orders.StoreOrders.followed_by.Given as goal

abbrev pub invariant-loop-index : goal.invariant-loop-index
invariant-loop-index l =
    l.stores.items ≡ concat (flat_map (each_behind l.rows) (take l.index l.self))
