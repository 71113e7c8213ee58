use Rattle.std.proofs.Common.{ℕ, List, length, sym, ap, ◌∙◌}
use Rattle.store_orders.proofs.Flat.{row_count}
use Rattle.store_orders.proofs.store_orders.StoreOrders.len.Goals as goal

pub returns : goal.returns
returns c =
    sym (row_count c.self.inside.width c.self.inside.count c.self.inside.stores.items)
    ∙ ap (λ (rows : List (List ℕ)). length rows) c.self.view_is
