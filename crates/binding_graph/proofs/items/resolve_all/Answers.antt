use Rattle.std.proofs.Common.{rules, [], map, reverse}
use Rattle.predefined_names.specs.declared.predefined.TheConstants.{PREDEFINED}
use Rattle.binding_kinds.specs.Fits.{AreKnown}
use Rattle.binding_kinds.specs.Value.{bare_item}
use Rattle.binding_kinds.specs.Outermost.{naming_of}
use Rattle.binding_graph.proofs.Answered.{faults_seen, items_seen}
use Rattle.binding_graph.proofs.items.resolve_all.Goals as goal

pub returns-clause-fault : goal.returns-clause-fault
returns-clause-fault c =
    faults_seen [] c.in_ok-scope.scope.entries.items (map naming_of PREDEFINED)
    (map bare_item c.args.items.now) c.resolve_items.result c.in_ok-scope.ensures.entries
    (c.resolve_items.ensures.fault [] (rw c.in_ok-scope.ensures.functions tt))

pub returns-clause-items : goal.returns-clause-items
returns-clause-items c =
    let scope = c.in_ok-scope.ensures in
    let known : AreKnown (reverse (map naming_of PREDEFINED)) = search rules in
    items_seen c.in_ok-scope.scope.functions.items c.in_ok-scope.scope.entries.items
    (map naming_of PREDEFINED) (map bare_item c.args.items.now) c.resolve_items.result
    scope.entries scope.functions (c.resolve_items.ensures.items [] (rw scope.functions tt) tt
    (rw scope.entries known))
