use Rattle.std.proofs.Common.{◌≡◌, ◌++◌, drop}
use Rattle.bench_nodes.specs.Touched.{gone_slots}
use Rattle.bench_nodes.proofs.touched.put_gone.Given as goal

abbrev pub invariant-loop-slot : goal.invariant-loop-slot
invariant-loop-slot l =
    l.names.items ++ gone_slots l.new.slots.now (drop l.slot-index l.slots)
    ≡ l.initial.names.items ++ gone_slots l.new.slots.now l.slots
