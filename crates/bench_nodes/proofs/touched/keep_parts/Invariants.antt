use Rattle.std.proofs.Common.{◌≡◌, drop}
use Rattle.bench_nodes.specs.Touched.{keep_parts}
use Rattle.bench_nodes.proofs.touched.keep_parts.Given as goal

abbrev pub invariant-loop-key : goal.invariant-loop-key
invariant-loop-key l = keep_parts l.a l.b (drop l.key-index l.keys) ≡ keep_parts l.a l.b l.keys
