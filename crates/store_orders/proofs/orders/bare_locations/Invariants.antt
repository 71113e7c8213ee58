use Rattle.std.proofs.Common.{◌≡◌, length}
use Rattle.store_orders.proofs.orders.bare_locations.Given as goal

abbrev pub invariant-loop-location : goal.invariant-loop-location
invariant-loop-location l = length l.bare.items ≡ l.location
