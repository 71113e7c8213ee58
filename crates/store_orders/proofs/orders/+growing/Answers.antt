use Rattle.std.proofs.Common.{◌≡◌, ◌<◌, ◌-◌, ◌∙◌, length, refl, rules, tests}
use Rattle.store_orders.specs.OrderPrefixes.{store_lists}
use Rattle.store_orders.proofs.Flat.{store_passed, store_found, cut_back}
use Rattle.store_orders.proofs.OrderPrefixLaws.{rows_on, location_found, rows_done}
use Rattle.store_orders.proofs.orders.+growing.Goals as goal
use Rattle.store_orders.proofs.orders.+growing.Goals.{add_rows-then-not-has_store+in_ok-push+in_ok-add_rows, add_rows-else-not-has_store}

pub add_rows-returns-clause-found : goal.add_rows-returns-clause-found
add_rows-returns-clause-found t c =
    let some : 0 < c.args.left = search (rules, tests) in
    rows_done (store_lists c.args.later.now) c.args.others.now c.args.begin c.args.left
    c.loop-store.store-index c.args.prefix.now.items _ c.args.found.now.items
    some c.loop-store-test.false c.loop-store.invariant.found

pub add_orders-returns-in_ok-add_rows-in-Some-clause-found : goal.add_orders-returns-in_ok-add_rows-in-Some-clause-found
add_orders-returns-in_ok-add_rows-in-Some-clause-found t c =
    let begin : c.len-begin.result ≡ length c.args.prefix.now.items = search rules in
    let left : c.len-left.result ≡ length c.in-Some.location.now.others.items = search rules in
    location_found c.args.locations.now c.in-Some.later.now c.in-Some.location.now
    c.deref-in-Some.result.now c.len-begin.result c.len-left.result c.args.prefix.now.items
    c.push.new.self.items _ c.args.found.now.items
    c.in-Some.ensures.cases.0 c.deref-in-Some.ensures.value begin left
    c.in_ok-push-in-Some.ensures.items c.in_ok-add_rows-in-Some.ensures.found

pub add_rows-loop-store-preserved : goal.add_rows-loop-store-preserved
add_rows-loop-store-preserved t c =
    let later = store_lists c.args.later.now in
    let prefix : c.deref.result.now ≡ c.args.prefix.now.items = c.deref.ensures.value ∙ c.loop-store.invariant.prefix in
    let test = rw prefix at c.has_store.ensures in
    elim c.if-not-has_store.branch [
      | add_rows-then-not-has_store+in_ok-push+in_ok-add_rows w ↦
          let pushed = rw c.loop-store.invariant.prefix at w.in_ok-push.ensures.items in record {
            prefix =
                rw w.prefix-is (cut_back c.args.prefix.now.items w.push.new.self.items
                w.add_rows.new.prefix.items w.pop.new.self.items _ _ pushed
                w.in_ok-add_rows.ensures.prefix w.add_rows.new.prefix.ok.0 w.pop.ensures.rest);
            found =
                rw w.found-is (store_found
                (rows_on later c.args.others.now c.args.begin (c.args.left - 1)) c.args.begin
                c.args.others.now c.args.prefix.now.items c.args.found.now.items
                c.loop-store.found.items _ c.loop-store.store-index _ 0 c.has_store.result
                c.loop-store-test.true refl test
                (search (rules, tests)) c.loop-store.invariant.found
                (rw pushed at w.in_ok-add_rows.ensures.found));
          }
      | add_rows-else-not-has_store w ↦ record {
        prefix = rw w.prefix-is c.loop-store.invariant.prefix;
        found =
            rw w.found-is (store_passed
            (rows_on later c.args.others.now c.args.begin (c.args.left - 1)) c.args.begin
            c.args.others.now c.args.prefix.now.items c.args.found.now.items
            c.loop-store.found.items c.loop-store.store-index _ 0 c.has_store.result
            c.loop-store-test.true refl test (search (rules, tests))
            c.loop-store.invariant.found);
      }
    ]
