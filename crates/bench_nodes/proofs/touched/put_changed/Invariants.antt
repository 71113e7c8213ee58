use Rattle.std.proofs.Common.{◌≡◌, ◌++◌, drop}
use Rattle.bench_nodes.specs.Touched.{rows_of, new_rows, changed_slots}
use Rattle.bench_nodes.proofs.touched.put_changed.Given as goal

abbrev pub invariant-loop-slot : goal.invariant-loop-slot
invariant-loop-slot l =
    let old = rows_of l.table in
    let new = new_rows l.new in
    l.names.items ++ changed_slots old new (drop l.slot-index new.slots)
    ≡ l.initial.names.items ++ changed_slots old new new.slots
