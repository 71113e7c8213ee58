use Rattle.std.proofs.Common.{◌≡◌, length, map}
use Rattle.store_orders.specs.Combinations.{combination_lists, ordered}
use Rattle.store_orders.proofs.orders.all_ordered.Given as goal

abbrev pub invariant-loop-combination : goal.invariant-loop-combination
invariant-loop-combination l = record {
  made : map combination_lists l.made.items
      ≡ map (λ c. ordered (length l.initial.stores.items) (combination_lists c)) l.yielded;
  many : length l.stores.items ≡ length l.initial.stores.items;
}
