use Rattle.std.proofs.Common.{arith}
use Rattle.store_orders.specs.Orders.{is_thread_store}
use Rattle.store_orders.proofs.Counting.{one_store_counted, no_store_counted, counted_few, all_counted}
use Rattle.store_orders.proofs.orders.store_count.Goals as goal
use Rattle.store_orders.proofs.orders.store_count.Goals.{then-is_store, else-is_store}

pub overflow_add-count : goal.overflow_add-count
overflow_add-count c =
    omega (
      arith,
      counted_few (is_thread_store c.args.location) c.args.events.now c.loop-number.number
          c.loop-number.count (omega (arith, c.loop-number-test.true, c.min-number-end.ensures))
          c.loop-number.invariant,
    )

pub loop-number-preserved : goal.loop-number-preserved
loop-number-preserved c =
    elim c.if-is_store.branch [
      | then-is_store w ↦ rw w.count-is (one_store_counted (is_thread_store c.args.location)
          c.args.events.now c.loop-number.number c.loop-number.count _ c.is_store.result
          (omega (arith, c.loop-number-test.true, c.min-number-end.ensures)) c.is_store.ensures
          w.if-is_store.true c.loop-number.invariant)
      | else-is_store w ↦ rw w.count-is (no_store_counted (is_thread_store c.args.location)
          c.args.events.now c.loop-number.number c.loop-number.count _ c.is_store.result
          (omega (arith, c.loop-number-test.true, c.min-number-end.ensures)) c.is_store.ensures
          w.if-is_store.false c.loop-number.invariant)
    ]

pub returns : goal.returns
returns c =
    all_counted c.args.events.now c.args.location c.loop-number.number c.min-number-end.result
    c.loop-number.count c.loop-number.invariant c.min-number-end.ensures
    c.loop-number.auto.number-end c.loop-number-test.false
