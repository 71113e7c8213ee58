use Rattle.std.proofs.Common.{◌≡◌, ◌+◌, ◌-◌, ◌*◌, ◌∙◌, take, drop, List, ℕ, ap, arith}
use Rattle.store_orders.proofs.Flat.{row_inside, row_read}
use Rattle.store_orders.proofs.store_orders.StoreOrders.order.Goals as goal

pub overflow_mul-begin : goal.overflow_mul-begin
overflow_mul-begin c =
    omega (
      arith,
      row_inside c.self.inside.width c.self.inside.count c.args.index c.self.inside.stores.items _
          c.self.view_is c.self.invariant c.requires,
      c.self.inside.stores.ok,
    )

pub overflow_add-result : goal.overflow_add-result
overflow_add-result c =
    omega (
      arith,
      row_inside c.self.inside.width c.self.inside.count c.args.index c.self.inside.stores.items _
          c.self.view_is c.self.invariant c.requires,
      c.self.inside.stores.ok,
    )

pub slice_bounds-result-end : goal.slice_bounds-result-end
slice_bounds-result-end c =
    omega (
      arith,
      row_inside c.self.inside.width c.self.inside.count c.args.index c.self.inside.stores.items _
          c.self.view_is c.self.invariant c.requires,
      c.deref.ensures.len,
      c.self.inside.stores.ok.0,
    )

pub returns : goal.returns
returns c =
    let begin = c.args.index * c.self.inside.width in
    let long : begin + c.self.inside.width - begin ≡ c.self.inside.width = omega arith in
    ap (λ (n : ℕ). take n (drop begin c.deref.result.now)) long
    ∙ ap (λ (l : List ℕ). take c.self.inside.width (drop begin l)) c.deref.ensures.value
    ∙ row_read c.self.inside.width c.self.inside.count c.args.index c.self.inside.stores.items _
    c.self.view_is c.requires
