use Rattle.std.proofs.Common.{◌≡◌, ◌++◌, drop, option_map}
use Rattle.bench_nodes.specs.Touched.{test_slots}
use Rattle.bench_nodes.proofs.touched.test_slots.Given as goal

abbrev pub invariant-loop-slot : goal.invariant-loop-slot
invariant-loop-slot l =
    l.names.items ++ test_slots (option_map (λ r. r.now) l.before) l.row (drop l.slot-index l.slots)
    ≡ test_slots (option_map (λ r. r.now) l.before) l.row l.slots
