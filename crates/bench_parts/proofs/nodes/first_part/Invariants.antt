use Rattle.std.proofs.Common.{◌≡◌, drop}
use Rattle.bench_parts.specs.Views.{first_part}
use Rattle.bench_parts.proofs.nodes.first_part.Given as goal

abbrev pub invariant-loop-index : goal.invariant-loop-index
invariant-loop-index l = first_part l.test (drop l.index l.keys) ≡ first_part l.test l.keys
