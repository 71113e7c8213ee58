use Rattle.std.proofs.Common.{◌≡◌, map, take}
use Rattle.ppc_lowering.specs.Lowering.{lowered_line}
use Rattle.ppc_lowering.proofs.lowering.lines_of.Given as goal

abbrev pub invariant-loop-step : goal.invariant-loop-step
invariant-loop-step l = l.lines.items ≡ map (lowered_line l.labels.items) (take l.step-index l.steps)
