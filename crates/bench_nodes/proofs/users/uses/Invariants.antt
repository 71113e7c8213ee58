use Rattle.std.proofs.Common.{◌≡◌, drop}
use Rattle.bench_nodes.specs.Nodes.{uses}
use Rattle.bench_nodes.proofs.users.uses.Given as goal

abbrev pub invariant-loop-key : goal.invariant-loop-key
invariant-loop-key l = uses l.kind l.of (drop l.key-index l.keys) ≡ uses l.kind l.of l.keys
