use Rattle.std.proofs.Common.{◌≡◌, ◌<◌, ◌↔◌, ◌/◌, length, arith, rules, tests}
use Rattle.store_orders.specs.Combinations.{candidates_of}
use Rattle.store_orders.proofs.Pairs.{has_none, has_index}
use Rattle.store_orders.proofs.combination.Combination.has.Goals as goal

pub returns-then-orders-eq0 : goal.returns-then-orders-eq0
returns-then-orders-eq0 c = (
  λ t. search (rules, tests),
  λ lt. absurd (has_none c.args.self.now c.args.index (omega arith) lt),
)

pub returns : goal.returns
returns c =
    let orders : c.len-orders.result ≡ length c.args.self.now.orders = omega arith in
    let reads_from : c.len.result ≡ length c.args.self.now.reads_from.items = omega (arith, c.args.self.now.reads_from.ok.0) in
    let e : (c.args.index / c.len-orders.result < c.len.result) ↔ (c.args.index < length (candidates_of c.args.self.now)) = rw (orders, reads_from) (has_index c.args.self.now c.args.index (omega (arith, orders))) in (
      λ t. e.0 (search (rules, tests)),
      λ lt.
          let k : c.args.index / c.len-orders.result < c.len.result = e.1 lt in
          search (rules, tests),
    )
