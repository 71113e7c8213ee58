use Rattle.std.proofs.Common.{arith}
use Rattle.std.proofs.lemmas.Grind.{common_steps}
use Rattle.run_combinations.proofs.Serving.{one_served}
use Rattle.run_combinations.proofs.layout.served_runs.Goals as goal

pub loop-thread-preserved : goal.loop-thread-preserved
loop-thread-preserved c = (
  grind (arith, common_steps, c.loop-thread.invariant.0),
  one_served c.args.program.now c.args.domain.now.values.items c.loop-thread.thread
      c.loop-thread.threads.items c.push.new.self.items c.in_ok-served_runs_of.field-0
      c.loop-thread.invariant.0 c.loop-thread.invariant.1
      (c.in_ok-served_runs_of.ensures c.requires.set.rising c.requires.held (omega arith))
      c.in_ok-push.ensures.items,
)
