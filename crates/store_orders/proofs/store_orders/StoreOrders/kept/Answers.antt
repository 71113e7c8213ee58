use Rattle.std.proofs.Common.{◌≡◌, ◌∙◌, List, ℕ, length, sym, ap, arith}
use Rattle.store_orders.proofs.Flat.{row_count}
use Rattle.store_orders.proofs.Rows.{row_stays, row_goes, kept_found}
use Rattle.store_orders.proofs.store_orders.StoreOrders.kept.Goals as goal
use Rattle.store_orders.proofs.store_orders.StoreOrders.kept.Goals.{then-answers-index+in_ok-extend_from_slice, else-answers-index}

pub bounds-answers-index : goal.bounds-answers-index
bounds-answers-index c =
    let many : length c.args.self.now ≡ c.self.inside.count = ap (λ (rows : List (List ℕ)). length rows) (sym c.self.view_is) ∙ row_count c.self.inside.width c.self.inside.count c.self.inside.stores.items in
    omega (arith, c.loop-index-test.true, many, c.requires)

pub order-requires : goal.order-requires
order-requires c =
    let many : length c.args.self.now ≡ c.self.inside.count = ap (λ (rows : List (List ℕ)). length rows) (sym c.self.view_is) ∙ row_count c.self.inside.width c.self.inside.count c.self.inside.stores.items in
    omega (arith, c.loop-index-test.true, many)

pub loop-index-preserved : goal.loop-index-preserved
loop-index-preserved c =
    let many : length c.args.self.now ≡ c.self.inside.count = ap (λ (rows : List (List ℕ)). length rows) (sym c.self.view_is) ∙ row_count c.self.inside.width c.self.inside.count c.self.inside.stores.items in
    elim c.if-answers-index.branch [
      | then-answers-index+in_ok-extend_from_slice w ↦
          let next = row_stays c.loop-index.index c.args.self.now c.args.answers.now c.loop-index.stores.items _ _ c.loop-index.count _ (omega (arith, c.loop-index-test.true, many)) (omega (arith, c.loop-index-test.true, many, c.requires)) w.if-answers-index.true w.order.ensures c.loop-index.invariant.stores c.loop-index.invariant.count w.in_ok-extend_from_slice.ensures.items in
          rw (w.stores-is, w.count-is) (record {
            stores = next.0;
            count = next.1;
            below = omega (arith, c.loop-index.invariant.below);
          })
      | else-answers-index w ↦
          let next = row_goes c.loop-index.index c.args.self.now c.args.answers.now c.loop-index.stores.items c.loop-index.count _ (omega (arith, c.loop-index-test.true, many)) (omega (arith, c.loop-index-test.true, many, c.requires)) w.if-answers-index.false c.loop-index.invariant.stores c.loop-index.invariant.count in
          rw (w.stores-is, w.count-is) (record {
            stores = next.0;
            count = next.1;
            below = omega (arith, c.loop-index.invariant.below);
          })
    ]

pub invariant_of-result : goal.invariant_of-result
invariant_of-result c =
    let many : length c.args.self.now ≡ c.self.inside.count = ap (λ (rows : List (List ℕ)). length rows) (sym c.self.view_is) ∙ row_count c.self.inside.width c.self.inside.count c.self.inside.stores.items in
    (kept_found c.self.inside.width c.self.inside.count c.self.inside.stores.items c.args.self.now
    c.args.answers.now c.loop-index.stores.items c.loop-index.count c.loop-index.index
    c.self.view_is c.self.invariant c.requires
    (omega (arith, c.loop-index-test.false, c.loop-index.auto.index-end, many))
    c.loop-index.invariant.stores c.loop-index.invariant.count).0

pub returns : goal.returns
returns c =
    let many : length c.args.self.now ≡ c.self.inside.count = ap (λ (rows : List (List ℕ)). length rows) (sym c.self.view_is) ∙ row_count c.self.inside.width c.self.inside.count c.self.inside.stores.items in
    (kept_found c.self.inside.width c.self.inside.count c.self.inside.stores.items c.args.self.now
    c.args.answers.now c.loop-index.stores.items c.loop-index.count c.loop-index.index
    c.self.view_is c.self.invariant c.requires
    (omega (arith, c.loop-index-test.false, c.loop-index.auto.index-end, many))
    c.loop-index.invariant.stores c.loop-index.invariant.count).1
