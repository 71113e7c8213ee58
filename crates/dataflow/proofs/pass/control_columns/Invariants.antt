use Rattle.thread_runs.specs.Runs.{executed}
use Rattle.dataflow.proofs.ControlLoop.{IsControlled}
use Rattle.dataflow.proofs.pass.control_columns.Given as goal

abbrev pub invariant-loop-step : goal.invariant-loop-step
invariant-loop-step l =
    IsControlled l.synchronised (executed l.steps) l.step-index l.control l.columns l.index
