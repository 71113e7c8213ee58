use Rattle.bench_nodes.proofs.Lookups.{has_placed}
use Rattle.bench_nodes.proofs.find.has_slot.Goals as goal

pub returns-in-Some : goal.returns-in-Some
returns-in-Some c =
    has_placed c.args.table.now.slots.items c.args.kind c.args.of c.in-Some.field-0
    (rw c.deref-2.ensures.value at c.in-Some.ensures)
