use Rattle.std.proofs.Common.{◌≡◌, ◌+◌, ◌≤◌, drop, length}
use Rattle.bench_nodes.specs.Nodes.{users_at}
use Rattle.bench_nodes.proofs.users.count_users.Given as goal

abbrev pub invariant-loop-slot : goal.invariant-loop-slot
invariant-loop-slot l = record {
  few : l.count ≤ l.slot-index;
  left : l.count + length (users_at (drop l.slot-index l.slots) l.node.kind l.node.of l.node.test)
      ≡ length (users_at l.slots l.node.kind l.node.of l.node.test);
}
