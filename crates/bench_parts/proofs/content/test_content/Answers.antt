use Rattle.std.proofs.Common.{ap}
use Rattle.bench_parts.proofs.Rows.{part_in, test_in}
use Rattle.bench_parts.proofs.content.test_content.Goals as goal

pub returns-in-Some : goal.returns-in-Some
returns-in-Some c =
    let parts = c.args.parts.now in
    let found = ap (part_in c.args.part) c.in-Some.ensures in
    let all = test_in parts.table.tests.items c.args.tests.now parts.locations.items c.args.part c.args.id in
    cc

pub returns-in-None : goal.returns-in-None
returns-in-None c =
    let parts = c.args.parts.now in
    let found = ap (part_in c.args.part) c.in-None.ensures in
    let all = test_in parts.table.tests.items c.args.tests.now parts.locations.items c.args.part c.args.id in
    cc
