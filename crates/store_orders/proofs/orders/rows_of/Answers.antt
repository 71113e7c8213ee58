use Rattle.std.proofs.Common.{◌-◌, ◌^◌, arith}
use Rattle.store_orders.proofs.Counting.{one_position_counted}
use Rattle.store_orders.proofs.orders.rows_of.Goals as goal

pub loop-positions-preserved : goal.loop-positions-preserved
loop-positions-preserved c =
    one_position_counted c.args.count c.loop-positions.positions (2 ^ 64 - 1) c.loop-positions.rows
    _ c.loop-positions.invariant (omega (arith, c.ranges.count.fits)) c.saturating_mul-rows.ensures
