use Rattle.std.proofs.Common.{◌≡◌, drop}
use Rattle.binding_shapes.specs.Shapes.{steps_with}
use Rattle.binding_shapes.specs.Stacks.{state_of}
use Rattle.binding_shapes.proofs.kinded.Kinding.take_all.Given as goal

abbrev pub invariant-loop-step : goal.invariant-loop-step
invariant-loop-step l =
    steps_with l.kinds l.steps (state_of l.initial.self)
    ≡ steps_with l.kinds (drop l.step-index l.steps) (state_of l.self)
