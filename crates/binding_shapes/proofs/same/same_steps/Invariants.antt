use Rattle.std.proofs.Common.{◌≡◌, ◌↔◌, length, drop, map}
use Rattle.binding_shapes.specs.Shapes.{shape_of_step}
use Rattle.binding_shapes.proofs.same.same_steps.Given as goal

abbrev pub invariant-loop-this : goal.invariant-loop-this
invariant-loop-this l =
    (map shape_of_step l.these ≡ map shape_of_step l.those)
    ↔ (map shape_of_step (drop (length l.yielded) l.these)
    ≡ map shape_of_step (drop (length l.yielded) l.those))
