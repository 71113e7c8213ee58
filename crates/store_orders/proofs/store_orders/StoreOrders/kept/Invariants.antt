use Rattle.std.proofs.Common.{◌≡◌, ◌≤◌, length}
use Rattle.std.specs.List.{concat}
use Rattle.store_orders.proofs.Rows.{first_kept}
use Rattle.store_orders.proofs.store_orders.StoreOrders.kept.Given as goal

abbrev pub invariant-loop-index : goal.invariant-loop-index
invariant-loop-index l = record {
  stores : l.stores.items ≡ concat (first_kept l.index l.self l.answers);
  count : l.count ≡ length (first_kept l.index l.self l.answers);
  below : l.count ≤ l.index;
}
