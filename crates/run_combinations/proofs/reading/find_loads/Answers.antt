use Rattle.std.proofs.Common.{arith, refl}
use Rattle.run_combinations.proofs.Gathering.{one_load_more, no_load_more}
use Rattle.run_combinations.proofs.reading.find_loads.Goals as goal
use Rattle.run_combinations.proofs.reading.find_loads.Goals.{then-is_read+in_ok-push, else-is_read}

pub loop-number-preserved : goal.loop-number-preserved
loop-number-preserved c =
    elim c.if-is_read.branch [
      | then-is_read+in_ok-push w ↦ rw w.loads-is (one_load_more c.args.events.now
          c.loop-number.number _ c.is_read.result c.loop-number.loads.items _ _
          (omega (arith, c.loop-number-test.true)) c.is_read.ensures w.if-is_read.true
          c.loop-number.invariant refl w.sources_of.ensures w.in_ok-push.ensures.items)
      | else-is_read w ↦ rw w.loads-is (no_load_more c.args.events.now c.loop-number.number _
          c.is_read.result c.loop-number.loads.items _ (omega (arith, c.loop-number-test.true))
          c.is_read.ensures w.if-is_read.false c.loop-number.invariant refl)
    ]
