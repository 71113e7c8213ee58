use Rattle.std.proofs.Common.{arith}
use Rattle.store_orders.proofs.Stores.{stored, passed, stores_are}
use Rattle.store_orders.proofs.orders.find_stores.Goals as goal
use Rattle.store_orders.proofs.orders.find_stores.Goals.{then-is_store+in_ok-push, else-is_store}

pub loop-number-preserved : goal.loop-number-preserved
loop-number-preserved c =
    elim c.if-is_store.branch [
      | then-is_store+in_ok-push w ↦ rw w.stores-is (stored c.args.events.now c.args.location
          c.loop-number.number _
          (omega (arith, c.loop-number-test.true, c.min-number-end.ensures))
          c.loop-number.invariant c.is_store.ensures w.if-is_store.true
          w.in_ok-push.ensures.items)
      | else-is_store w ↦ rw w.stores-is (passed c.args.events.now c.args.location
          c.loop-number.number _
          (omega (arith, c.loop-number-test.true, c.min-number-end.ensures))
          c.loop-number.invariant c.is_store.ensures w.if-is_store.false)
    ]

pub returns : goal.returns
returns c =
    stores_are c.args.events.now c.args.location _ _ c.loop-number.invariant
    c.min-number-end.ensures c.loop-number.auto.number-end c.loop-number-test.false
