use Rattle.std.proofs.Common.{arith}
use Rattle.run_combinations.proofs.Laying.{initial_step}
use Rattle.run_combinations.proofs.layout.initial_events.Goals as goal

pub loop-location-preserved : goal.loop-location-preserved
loop-location-preserved c =
    initial_step c.args.initial.now c.loop-location.location _ c.loop-location.events.items
    c.push.new.self.items (omega arith) c.in_ok-push.ensures.items c.loop-location.invariant
