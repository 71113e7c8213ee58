use Rattle.std.proofs.Common.{arith}
use Rattle.run_combinations.proofs.Laying.{keys_step}
use Rattle.run_combinations.proofs.layout.initial_keys.Goals as goal

pub loop-event-preserved : goal.loop-event-preserved
loop-event-preserved c =
    keys_step c.args.values.now c.args.initial.now c.loop-event.event-index _ c.loop-event.loads
    c.loop-event.stores c.add_keys.new.loads c.add_keys.new.stores (omega arith) c.add_keys.ensures
    c.loop-event.invariant
