use Rattle.std.proofs.Common.{◌≡◌, take}
use Rattle.store_orders.specs.Events.{has_store}
use Rattle.store_orders.proofs.orders.has_store.Given as goal

abbrev pub invariant-loop-other : goal.invariant-loop-other
invariant-loop-other l = l.is_there ≡ has_store (take l.other-index l.other-items) l.store
