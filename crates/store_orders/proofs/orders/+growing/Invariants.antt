use Rattle.std.proofs.Common.{◌≡◌, ◌+◌, ◌-◌, ◌++◌, take}
use Rattle.std.specs.List.{concat, flat_map}
use Rattle.store_orders.specs.OrderPrefixes.{with_new_from, store_lists}
use Rattle.store_orders.proofs.OrderPrefixLaws.{weight, rows_on}
use Rattle.store_orders.proofs.orders.+growing.Given as goal

abbrev pub decreases-add_orders : goal.decreases-add_orders
decreases-add_orders l = weight (store_lists l.locations.now)

abbrev pub decreases-add_rows : goal.decreases-add_rows
decreases-add_rows l = 1 + l.left + weight (store_lists l.later.now)

abbrev pub invariant-add_rows-loop-store : goal.invariant-add_rows-loop-store
invariant-add_rows-loop-store l = record {
  prefix : l.prefix.items ≡ l.initial.prefix.items;
  found : l.found.items
      ≡ l.initial.found.items
      ++ concat (flat_map (rows_on (store_lists l.later) l.others l.begin (l.left - 1))
      (with_new_from l.begin (take l.store-index l.others) l.initial.prefix.items));
}
