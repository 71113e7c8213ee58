use Rattle.std.proofs.Common.{◌-◌, ◌^◌}
use Rattle.store_orders.proofs.Counting.{one_location_counted}
use Rattle.store_orders.proofs.orders.order_count.Goals as goal

pub loop-location-preserved : goal.loop-location-preserved
loop-location-preserved c =
    one_location_counted c.args.events.now c.loop-location.location (2 ^ 64 - 1)
    c.loop-location.count c.store_count.result c.rows_of.result _ c.loop-location.invariant
    c.store_count.ensures c.rows_of.ensures c.saturating_mul-count.ensures
