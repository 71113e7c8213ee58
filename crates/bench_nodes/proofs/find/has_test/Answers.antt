use Rattle.bench_nodes.proofs.Lookups.{has_row, has_no_row}
use Rattle.bench_nodes.proofs.find.has_test.Goals as goal

pub returns-in-Some : goal.returns-in-Some
returns-in-Some c =
    has_row c.args.table.now.tests.items c.args.id c.in-Some.field-0.now c.in-Some.ensures

pub returns-in-None : goal.returns-in-None
returns-in-None c = has_no_row c.args.table.now.tests.items c.args.id c.in-None.ensures
