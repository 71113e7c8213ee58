use Rattle.bench_nodes.proofs.Lists.{row_keys}
use Rattle.bench_nodes.proofs.nodes.space_key.Goals as goal

pub space_part-requires : goal.space_part-requires
space_part-requires c =
    rw (row_keys c.args.table.now.tests.items c.args.id c.in-Some.test.now c.in-Some.ensures) at
    c.requires
