use Rattle.std.proofs.Common.{◌≡◌, ◌++◌, drop}
use Rattle.bench_nodes.specs.Touched.{all_names}
use Rattle.bench_nodes.proofs.touched.all_names.Given as goal

abbrev pub invariant-loop-slot : goal.invariant-loop-slot
invariant-loop-slot l = l.names.items ++ all_names (drop l.slot-index l.slots) ≡ all_names l.slots
