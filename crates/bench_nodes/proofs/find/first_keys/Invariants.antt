use Rattle.std.proofs.Common.{◌≡◌, drop}
use Rattle.bench_nodes.specs.Nodes.{slot_keys}
use Rattle.bench_nodes.proofs.find.first_keys.Given as goal

abbrev pub invariant-loop-slot : goal.invariant-loop-slot
invariant-loop-slot l =
    slot_keys (drop l.slot-index l.slots) l.kind l.of ≡ slot_keys l.slots l.kind l.of
