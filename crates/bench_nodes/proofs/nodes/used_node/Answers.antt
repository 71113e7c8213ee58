use Rattle.bench_nodes.proofs.Lists.{some_slots, test_within, slot_within}
use Rattle.bench_nodes.proofs.nodes.used_node.Goals as goal

pub nonzero_div-i : goal.nonzero_div-i
nonzero_div-i c = some_slots c.args.slots.now c.args.tests.now c.args.i c.requires

pub nonzero_rem-i : goal.nonzero_rem-i
nonzero_rem-i c = some_slots c.args.slots.now c.args.tests.now c.args.i c.requires

pub node_in-requires-clause-test : goal.node_in-requires-clause-test
node_in-requires-clause-test c = test_within c.args.slots.now c.args.tests.now c.args.i c.requires

pub node_in-requires-clause-slot : goal.node_in-requires-clause-slot
node_in-requires-clause-slot c = slot_within c.args.slots.now c.args.tests.now c.args.i c.requires
