use Rattle.std.proofs.Common.{◌≡◌, ◌++◌, take}
use Rattle.std.specs.List.{concat}
use Rattle.store_orders.specs.Lists.{each_behind}
use Rattle.store_orders.proofs.store_orders.StoreOrders.add_behind.Given as goal

abbrev pub invariant-loop-index : goal.invariant-loop-index
invariant-loop-index l =
    l.stores.items ≡ l.initial.stores.items ++ concat (each_behind (take l.index l.self) l.front)
