use Rattle.bench_nodes.proofs.Lists.{used_then, used_else}
use Rattle.bench_nodes.proofs.nodes.is_used.Goals as goal

pub returns-then-has_test : goal.returns-then-has_test
returns-then-has_test c =
    used_then c.args.table.now.slots.items c.args.table.now.tests.items c.args.node
    c.has_test.result c.has_slot.result c.has_test.ensures c.if-has_test.true c.has_slot.ensures

pub returns-else-has_test : goal.returns-else-has_test
returns-else-has_test c =
    used_else c.args.table.now.slots.items c.args.table.now.tests.items c.args.node
    c.has_test.result c.has_test.ensures c.if-has_test.false
