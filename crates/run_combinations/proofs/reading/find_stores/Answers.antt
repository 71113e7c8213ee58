use Rattle.std.proofs.Common.{arith, refl}
use Rattle.run_combinations.proofs.Gathering.{one_store_more, no_store_more}
use Rattle.run_combinations.proofs.reading.find_stores.Goals as goal
use Rattle.run_combinations.proofs.reading.find_stores.Goals.{then-is_write+in_ok-push, else-is_write}

pub loop-number-preserved : goal.loop-number-preserved
loop-number-preserved c =
    elim c.if-is_write.branch [
      | then-is_write+in_ok-push w ↦ rw w.stores-is (one_store_more c.args.events.now
          c.args.need_pairs.now c.loop-number.number _ c.is_write.result
          c.loop-number.stores.items _ _ (omega (arith, c.loop-number-test.true))
          c.is_write.ensures w.if-is_write.true c.loop-number.invariant refl w.needs_of.ensures
          w.in_ok-push.ensures.items)
      | else-is_write w ↦ rw w.stores-is (no_store_more c.args.events.now c.args.need_pairs.now
          c.loop-number.number _ c.is_write.result c.loop-number.stores.items _
          (omega (arith, c.loop-number-test.true)) c.is_write.ensures w.if-is_write.false
          c.loop-number.invariant refl)
    ]
