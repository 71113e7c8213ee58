use Rattle.std.proofs.Common.{◌≡◌, ◌++◌, drop}
use Rattle.bench_nodes.specs.Places.{user_names}
use Rattle.bench_nodes.proofs.places.user_names.Given as goal

abbrev pub invariant-loop-slot : goal.invariant-loop-slot
invariant-loop-slot l =
    l.names.items ++ user_names (drop l.slot-index l.slots) l.kind l.of
    ≡ user_names l.slots l.kind l.of
