use Rattle.std.proofs.Common.{◌≡◌, ◌-◌, ◌^◌, min}
use Rattle.store_orders.specs.Orders.{arrangement_count}
use Rattle.store_orders.proofs.orders.rows_of.Given as goal

abbrev pub invariant-loop-positions : goal.invariant-loop-positions
invariant-loop-positions l = l.rows ≡ min (arrangement_count l.count l.positions) (2 ^ 64 - 1)
