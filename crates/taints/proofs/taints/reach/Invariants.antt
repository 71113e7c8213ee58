use Rattle.thread_runs.specs.Runs.{executed}
use Rattle.taints.proofs.ReachLoop.{IsReached}
use Rattle.taints.proofs.taints.reach.Given as goal

abbrev pub invariant-loop-step : goal.invariant-loop-step
invariant-loop-step l =
    IsReached l.narrow l.stored (executed l.steps) l.step-index l.taints l.columns l.index
