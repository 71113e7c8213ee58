use Rattle.std.proofs.Common.{◌≡◌, [], drop, reverse}
use Rattle.order_growth.proofs.Stepping.{stack_behind}
use Rattle.order_growth.proofs.growth.code_growth.Given as goal

abbrev pub invariant-loop-step : goal.invariant-loop-step
invariant-loop-step l =
    stack_behind l.inputs (drop l.step-index l.steps) (reverse l.stack.items)
    ≡ stack_behind l.inputs l.steps []
