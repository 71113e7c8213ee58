use Rattle.store_orders.specs.Orders.{all_orders}
use Rattle.cut_spaces.specs.Rows.{KeepsOrders}
use Rattle.cut_spaces.proofs.rows.kept_orders.Given as goal

abbrev pub invariant-loop-location : goal.invariant-loop-location
invariant-loop-location l =
    KeepsOrders l.item l.combination (all_orders l.combination.events.items l.location) l.orders
