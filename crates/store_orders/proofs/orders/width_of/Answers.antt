use Rattle.std.proofs.Common.{◌-◌, ◌^◌, arith}
use Rattle.store_orders.proofs.Flat.{one_location_wide}
use Rattle.store_orders.proofs.orders.width_of.Goals as goal

pub loop-location-preserved : goal.loop-location-preserved
loop-location-preserved c =
    one_location_wide c.args.locations.now c.loop-location.location-index c.location-item.result
    (2 ^ 64 - 1) c.loop-location.width c.len.result c.saturating_add.result
    c.saturating_add-width.result c.loop-location-test.true c.location-item.is
    c.loop-location.invariant (omega (arith, c.len.ensures, c.location-item.result.others.ok.0))
    c.saturating_add.ensures c.saturating_add-width.ensures
