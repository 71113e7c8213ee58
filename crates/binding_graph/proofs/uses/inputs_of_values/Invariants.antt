use Rattle.std.proofs.Common.{◌≡◌, map, take}
use Rattle.binding_graph.proofs.uses.inputs_of_values.Given as goal

abbrev pub invariant-loop-value : goal.invariant-loop-value
invariant-loop-value l = l.inputs.items ≡ map (λ u. u.input) (take l.value-index l.values)
