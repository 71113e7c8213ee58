use Rattle.binding_shapes.proofs.Compared.{AreSameTo}
use Rattle.binding_shapes.proofs.Shaped.{body_shape}
use Rattle.binding_shapes.proofs.same.same_bodies.Given as goal

abbrev pub invariant-loop-index : goal.invariant-loop-index
invariant-loop-index l = AreSameTo body_shape l.these l.those l.index
