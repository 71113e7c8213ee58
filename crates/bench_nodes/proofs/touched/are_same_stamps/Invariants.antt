use Rattle.std.proofs.Common.{◌≡◌, drop}
use Rattle.bench_nodes.specs.Touched.{same_stamps}
use Rattle.bench_nodes.proofs.touched.are_same_stamps.Given as goal

abbrev pub invariant-loop-i : goal.invariant-loop-i
invariant-loop-i l = same_stamps (drop l.i l.a) (drop l.i l.b) ≡ same_stamps l.a l.b
