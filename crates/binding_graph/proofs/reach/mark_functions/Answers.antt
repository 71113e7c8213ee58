use Rattle.std.proofs.Common.{arith}
use Rattle.binding_graph.proofs.Reaching.{functions_more}
use Rattle.binding_graph.proofs.reach.mark_functions.Goals as goal

pub loop-function-preserved : goal.loop-function-preserved
loop-function-preserved c =
    functions_more c.args.functions.now c.loop-function.function-index _ _ _ _ _ _ _ (omega arith)
    c.loop-function.invariant c.in_ok-mark.ensures
