use Rattle.std.proofs.Common.{◌≡◌, ◌≤◌}
use Rattle.thread_runs.specs.Runs.{executed}
use Rattle.taints.specs.Chains.{event_index}
use Rattle.dataflow.proofs.pass.event_count.Given as goal

abbrev pub invariant-loop-step : goal.invariant-loop-step
invariant-loop-step l =
    (l.count ≡ event_index (executed l.steps) l.step-index) × (l.count ≤ l.step-index)
