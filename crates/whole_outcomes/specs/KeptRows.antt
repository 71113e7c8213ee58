-- Orders of kept rows are the orders without those that have another row. Read `Sublists` and `Kept` first.
use Rattle.std.specs.Prelude.{ℕ, ◌≡◌, Bool, List}
use Rattle.store_orders.specs.Orders.{all_orders}
use Rattle.store_orders.specs.declared.combination.Event.{Event}
use Rattle.whole_outcomes.specs.Kept.{kept_orders, HasRefusedRow}
use Rattle.whole_outcomes.specs.Sublists.{LeavesOut}

-- The orders with kept rows are all orders, without those that have a row that is not kept.
abbrev pub OrdersHaveKeptRows : List Event → Type 0
OrdersHaveKeptRows events =
    (kept : ℕ → List ℕ → Bool) (n : ℕ)
    → LeavesOut (λ i x j y. x ≡ y) (λ i x. HasRefusedRow kept events n x) 0 (all_orders events n) 0
    (kept_orders kept events n)
