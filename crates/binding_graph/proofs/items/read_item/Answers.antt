use Rattle.binding_graph.proofs.items.read_item.Goals as goal

pub returns-in-Function-clause-resolved : goal.returns-in-Function-clause-resolved
returns-in-Function-clause-resolved c =
    λ ss kept sound known. rw c.in-Function.is (rw c.deref-in-Function.ensures.value at
    (c.read_defined.ensures.resolved ss))
