use Rattle.bench_nodes.proofs.Lookups.{has_placed}
use Rattle.bench_nodes.proofs.touched.is_there.Goals as goal

pub returns-in-Some : goal.returns-in-Some
returns-in-Some c =
    has_placed c.args.new.now.slots.now c.args.kind c.args.of c.in-Some.field-0 c.in-Some.ensures
