use Rattle.std.proofs.Common.{Some, Option, slice_index_or, ap, sym, ◌∙◌}
use Rattle.memo_core.specs.declared.keys.Node.{Node}
use Rattle.bench_nodes.specs.declared.table.Slot.{Slot}
use Rattle.bench_nodes.specs.Nodes.{node_of}
use Rattle.bench_nodes.proofs.Lists.{used_node}
use Rattle.bench_nodes.proofs.nodes.node_in.Goals as goal

pub returns : goal.returns
returns c =
    used_node c.args.slots.now c.args.tests.now c.args.test c.args.slot c.index-tests-test.result
    c.index-slots-slot.result c.requires.test c.requires.slot
    ∙ ap
    (λ (s : Slot).
    let o : Option Node =
    Some (node_of
    (slice_index_or c.args.tests.now c.args.test c.index-tests-test.result).id s) in
    o)
    (sym c.index-slots-slot.is)
    ∙ ap (λ (n : Node). let o : Option Node = Some n in o) (sym c.node_of.ensures)
