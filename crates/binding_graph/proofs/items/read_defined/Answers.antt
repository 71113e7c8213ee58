use Rattle.std.proofs.Common.{length, map, reverse, refl}
use Rattle.text_values.specs.ModelValues.{term_of}
use Rattle.binding_kinds.specs.Value.{entry_of}
use Rattle.binding_graph.specs.Usages.{usage_of}
use Rattle.binding_graph.proofs.Declared.{function_resolved}
use Rattle.binding_graph.proofs.items.read_defined.Goals as goal

pub returns-in_ok-lower_function-in-None-clause-resolved : goal.returns-in_ok-lower_function-in-None-clause-resolved
returns-in_ok-lower_function-in-None-clause-resolved c = λ ss.
    let names = reverse (map entry_of c.args.scope.now.entries.items) in
    let one = c.in_ok-lower_function-in-None.ensures in
    function_resolved ss (map usage_of c.args.scope.now.functions.items) names names (length names)
    c.args.index c.args.name.now c.args.parameters.now (term_of c.args.body.now)
    c.declare_function.new.scope.functions.items c.in_ok-lower_function-in-None.field-0 refl
    (c.in_ok-fault.ensures.usages c.in-None.is) one.role one.inputs one.functions
