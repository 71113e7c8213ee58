-- The steps so far as plain data.
use Rattle.std.specs.Prelude.{reverse}
use Rattle.binding_graph.specs.Lowering.{LoweringState}
use Rattle.binding_shapes.specs.declared.kinded.Kinding.{Kinding}

abbrev pub state_of : Kinding → LoweringState
state_of k = record { kinds = reverse k.kinds.items; steps = k.steps.items }
