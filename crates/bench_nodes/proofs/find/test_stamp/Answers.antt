use Rattle.std.proofs.Common.{◌∙◌}
use Rattle.bench_nodes.proofs.Lookups.{row_stamp, no_stamp}
use Rattle.bench_nodes.proofs.find.test_stamp.Goals as goal

pub returns-in-Some : goal.returns-in-Some
returns-in-Some c =
    c.stamp_in.ensures
    ∙ row_stamp c.args.table.now.tests.items c.args.part c.args.id c.in-Some.test.now
    c.in-Some.ensures

pub returns-in-None : goal.returns-in-None
returns-in-None c = no_stamp c.args.table.now.tests.items c.args.part c.args.id c.in-None.ensures
