use Rattle.std.proofs.Common.{◌≡◌, length, take}
use Rattle.store_orders.specs.OrderPrefixes.{store_lists, all_stores}
use Rattle.store_orders.proofs.orders.fill_all.Given as goal

abbrev pub invariant-loop-location : goal.invariant-loop-location
invariant-loop-location l = record {
  stores : store_lists (take l.location l.locations.items) ≡ all_stores l.events l.location;
  many : length l.locations.items ≡ length l.initial.locations.items;
}
