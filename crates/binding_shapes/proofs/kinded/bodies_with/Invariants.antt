use Rattle.std.proofs.Common.{◌≡◌, map, take}
use Rattle.binding_graph.specs.Contents.{body_content}
use Rattle.binding_shapes.specs.Shapes.{body_with}
use Rattle.binding_shapes.proofs.kinded.bodies_with.Given as goal

abbrev pub invariant-loop-body : goal.invariant-loop-body
invariant-loop-body l =
    map body_content l.made.items
    ≡ map (body_with l.kinds) (map body_content (take l.body-index l.bodies))
