use Rattle.std.proofs.Common.{◌≡◌, ◌<◌, drop, length, slice_get}
use Rattle.bench_nodes.specs.Nodes.{users_at}
use Rattle.bench_nodes.proofs.users.find_user.Given as goal

abbrev pub invariant-loop-slot : goal.invariant-loop-slot
invariant-loop-slot l = record {
  within : l.left < length (users_at (drop l.slot-index l.slots) l.node.kind l.node.of l.node.test);
  same : slice_get (users_at (drop l.slot-index l.slots) l.node.kind l.node.of l.node.test) l.left
      ≡ slice_get (users_at l.slots l.node.kind l.node.of l.node.test) l.i;
}
