use Rattle.draw_graph.proofs.Steps.{steps_go}
use Rattle.draw_graph.proofs.text.put_steps.Goals as goal

pub loop-step-preserved : goal.loop-step-preserved
loop-step-preserved c =
    rw c.in_ok-put_step.ensures (steps_go c.args.initial_count c.loop-step.from
    c.loop-step.step-index c.loop-step.text.items _ c.args.steps.now c.step-item.result
    c.loop-step-test.true c.step-item.is c.loop-step.invariant)
