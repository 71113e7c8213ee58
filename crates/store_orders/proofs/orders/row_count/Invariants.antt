use Rattle.std.proofs.Common.{◌≡◌, ◌-◌, ◌^◌, min}
use Rattle.store_orders.specs.Rows.{row_total}
use Rattle.store_orders.proofs.orders.row_count.Given as goal

abbrev pub invariant-loop-location : goal.invariant-loop-location
invariant-loop-location l = l.count ≡ min (row_total l.events l.location) (2 ^ 64 - 1)
