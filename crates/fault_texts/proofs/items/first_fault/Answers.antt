use Rattle.std.proofs.Common.{map}
use Rattle.binding_kinds.specs.Value.{bare_item}
use Rattle.fault_texts.proofs.Finding.{found_in}
use Rattle.fault_texts.proofs.items.first_fault.Goals as goal

pub returns : goal.returns
returns c =
    found_in c.in_ok-scope.scope.entries.items c.in_ok-scope.scope.functions.items
    (map bare_item c.args.items.now) c.find_fault.result c.in_ok-scope.ensures.functions
    c.in_ok-scope.ensures.entries c.find_fault.ensures
