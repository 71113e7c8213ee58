use Rattle.std.proofs.Common.{◌∙◌, refl}
use Rattle.binding_graph.proofs.Groups.{inputs_made, functions_made}
use Rattle.binding_graph.proofs.bodies.group_item.Goals as goal

pub returns : goal.returns
returns c = λ ss us names from bounds bodies values functions. (
  (refl, bodies),
  record {
    inputs =
        inputs_made c.args.uses.now.values.items _ _ _ values c.deref.ensures.value
        c.in_ok-inputs.ensures.inputs;
    functions =
        functions_made c.args.uses.now.functions.items _ _ functions
        (c.in_ok-inputs.ensures.functions
        ∙ c.deref-2.ensures.value);
  },
)
