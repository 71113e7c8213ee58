use Rattle.std.proofs.Common.{length}
use Rattle.thread_runs.specs.Runs.{executed}
use Rattle.taints.specs.Taints.{IsWrittenBetween}
use Rattle.taints.proofs.taints.clean.Given as goal

abbrev pub invariant-loop-step : goal.invariant-loop-step
invariant-loop-step l = IsWrittenBetween (executed l.steps) l.step-index (length l.steps) l.taints
