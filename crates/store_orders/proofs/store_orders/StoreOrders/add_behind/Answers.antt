use Rattle.std.proofs.Common.{◌≡◌, ◌∙◌, List, ℕ, length, take, sym, ap, arith}
use Rattle.std.proofs.lemmas.List.{take_all}
use Rattle.store_orders.proofs.Flat.{row_count}
use Rattle.store_orders.proofs.Rows.{one_behind}
use Rattle.store_orders.proofs.store_orders.StoreOrders.add_behind.Goals as goal

pub order-requires : goal.order-requires
order-requires c =
    let many : length c.args.self.now ≡ c.self.inside.count = ap (λ (rows : List (List ℕ)). length rows) (sym c.self.view_is) ∙ row_count c.self.inside.width c.self.inside.count c.self.inside.stores.items in
    omega (arith, c.loop-index-test.true, many)

pub loop-index-preserved : goal.loop-index-preserved
loop-index-preserved c =
    let many : length c.args.self.now ≡ c.self.inside.count = ap (λ (rows : List (List ℕ)). length rows) (sym c.self.view_is) ∙ row_count c.self.inside.width c.self.inside.count c.self.inside.stores.items in
    one_behind c.args.self.now c.args.front.now _ _ c.loop-index.stores.items _ _ c.loop-index.index _
    (omega (arith, c.loop-index-test.true, many)) c.order.ensures c.loop-index.invariant
    c.in_ok-extend_from_slice.ensures.items c.in_ok-extend_from_slice-2.ensures.items

pub returns : goal.returns
returns c =
    let many : length c.args.self.now ≡ c.self.inside.count = ap (λ (rows : List (List ℕ)). length rows) (sym c.self.view_is) ∙ row_count c.self.inside.width c.self.inside.count c.self.inside.stores.items in
    let whole : take c.loop-index.index c.args.self.now ≡ c.args.self.now =
    take_all c.loop-index.index c.args.self.now
    (omega (arith, c.loop-index-test.false, c.loop-index.auto.index-end, many)) in
    rw whole at c.loop-index.invariant
