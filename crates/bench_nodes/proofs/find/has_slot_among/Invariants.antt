use Rattle.std.proofs.Common.{◌≡◌, drop}
use Rattle.bench_nodes.specs.Nodes.{has_slot}
use Rattle.bench_nodes.proofs.find.has_slot_among.Given as goal

abbrev pub invariant-loop-slot : goal.invariant-loop-slot
invariant-loop-slot l =
    has_slot (drop l.slot-index l.slots) l.kind l.of ≡ has_slot l.slots l.kind l.of
