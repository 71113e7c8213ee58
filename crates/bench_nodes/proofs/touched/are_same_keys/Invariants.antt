use Rattle.std.proofs.Common.{◌≡◌, drop}
use Rattle.bench_nodes.specs.Touched.{same_slot_keys}
use Rattle.bench_nodes.proofs.touched.are_same_keys.Given as goal

abbrev pub invariant-loop-i : goal.invariant-loop-i
invariant-loop-i l = same_slot_keys (drop l.i l.a) (drop l.i l.b) ≡ same_slot_keys l.a l.b
