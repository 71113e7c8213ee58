use Rattle.std.proofs.Common.{arith}
use Rattle.std.proofs.lemmas.Grind.{common_steps}
use Rattle.thread_runs.proofs.Holding.{one_held}
use Rattle.thread_runs.proofs.location_values.held_values.Goals as goal

pub loop-location-preserved : goal.loop-location-preserved
loop-location-preserved c = record {
  many = grind (arith, common_steps, c.loop-location.invariant.many);
  held =
      one_held c.args.program.now c.args.values.now c.loop-location.location
      c.loop-location.held.items c.push.new.self.items c.in_ok-values_at.field-0
      c.loop-location.invariant.many c.loop-location.invariant.held c.in_ok-values_at.ensures
      c.in_ok-push.ensures.items;
}
