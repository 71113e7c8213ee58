use Rattle.std.proofs.Common.{arith}
use Rattle.binding_graph.proofs.Reaching.{inputs_more}
use Rattle.binding_graph.proofs.reach.mark_inputs.Goals as goal

pub loop-input-preserved : goal.loop-input-preserved
loop-input-preserved c =
    inputs_more c.args.inputs.now c.loop-input.input-index _ _ _ _ _ _ _ (omega arith)
    c.loop-input.invariant c.in_ok-mark.ensures
