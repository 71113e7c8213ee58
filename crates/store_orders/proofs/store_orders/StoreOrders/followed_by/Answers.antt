use Rattle.std.proofs.Common.{◌≡◌, ◌-◌, ◌^◌, ◌∙◌, List, ℕ, length, take, sym, ap, arith}
use Rattle.std.specs.List.{concat, flat_map}
use Rattle.std.proofs.lemmas.List.{take_all}
use Rattle.store_orders.specs.Lists.{each_behind}
use Rattle.store_orders.proofs.Flat.{row_count}
use Rattle.store_orders.proofs.Rows.{one_followed, followed_found}
use Rattle.store_orders.proofs.store_orders.StoreOrders.followed_by.Goals as goal

pub order-requires : goal.order-requires
order-requires c =
    let many : length c.args.self.now ≡ c.self.inside.count = ap (λ (rows : List (List ℕ)). length rows) (sym c.self.view_is) ∙ row_count c.self.inside.width c.self.inside.count c.self.inside.stores.items in
    omega (arith, c.loop-index-test.true, many)

pub loop-index-preserved : goal.loop-index-preserved
loop-index-preserved c =
    let many : length c.args.self.now ≡ c.self.inside.count = ap (λ (rows : List (List ℕ)). length rows) (sym c.self.view_is) ∙ row_count c.self.inside.width c.self.inside.count c.self.inside.stores.items in
    one_followed c.args.rows.now c.args.self.now _ c.loop-index.stores.items _ c.loop-index.index _
    (omega (arith, c.loop-index-test.true, many)) c.order.ensures c.loop-index.invariant
    c.in_ok-add_behind.ensures

pub invariant_of-result : goal.invariant_of-result
invariant_of-result c =
    let many : length c.args.self.now ≡ c.self.inside.count = ap (λ (rows : List (List ℕ)). length rows) (sym c.self.view_is) ∙ row_count c.self.inside.width c.self.inside.count c.self.inside.stores.items in
    let more : length c.args.rows.now ≡ c.rows.inside.count = ap (λ (rows : List (List ℕ)). length rows) (sym c.rows.view_is) ∙ row_count c.rows.inside.width c.rows.inside.count c.rows.inside.stores.items in
    let whole : take c.loop-index.index c.args.self.now ≡ c.args.self.now =
    take_all c.loop-index.index c.args.self.now
    (omega (arith, c.loop-index-test.false, c.loop-index.auto.index-end, many)) in
    let is : c.loop-index.stores.items ≡ concat (flat_map (each_behind c.args.rows.now) c.args.self.now) = rw whole at c.loop-index.invariant in
    (followed_found c.self.inside.width c.rows.inside.width c.self.inside.count c.rows.inside.count
    c.self.inside.stores.items c.rows.inside.stores.items c.args.self.now c.args.rows.now
    c.loop-index.stores.items c.saturating_add-width.result c.saturating_mul.result (2 ^ 64 - 1)
    c.self.view_is c.rows.view_is c.self.invariant c.rows.invariant (sym many) (sym more) c.requires is
    (omega (arith, c.loop-index.stores.ok.0, c.loop-index.stores.ok.1, c.loop-index.stores.small))
    c.saturating_add-width.ensures c.saturating_mul.ensures).0

pub returns : goal.returns
returns c =
    let many : length c.args.self.now ≡ c.self.inside.count = ap (λ (rows : List (List ℕ)). length rows) (sym c.self.view_is) ∙ row_count c.self.inside.width c.self.inside.count c.self.inside.stores.items in
    let more : length c.args.rows.now ≡ c.rows.inside.count = ap (λ (rows : List (List ℕ)). length rows) (sym c.rows.view_is) ∙ row_count c.rows.inside.width c.rows.inside.count c.rows.inside.stores.items in
    let whole : take c.loop-index.index c.args.self.now ≡ c.args.self.now =
    take_all c.loop-index.index c.args.self.now
    (omega (arith, c.loop-index-test.false, c.loop-index.auto.index-end, many)) in
    let is : c.loop-index.stores.items ≡ concat (flat_map (each_behind c.args.rows.now) c.args.self.now) = rw whole at c.loop-index.invariant in
    (followed_found c.self.inside.width c.rows.inside.width c.self.inside.count c.rows.inside.count
    c.self.inside.stores.items c.rows.inside.stores.items c.args.self.now c.args.rows.now
    c.loop-index.stores.items c.saturating_add-width.result c.saturating_mul.result (2 ^ 64 - 1)
    c.self.view_is c.rows.view_is c.self.invariant c.rows.invariant (sym many) (sym more) c.requires is
    (omega (arith, c.loop-index.stores.ok.0, c.loop-index.stores.ok.1, c.loop-index.stores.small))
    c.saturating_add-width.ensures c.saturating_mul.ensures).1
