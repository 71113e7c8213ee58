use Rattle.std.proofs.Common.{◌≡◌, true, take}
use Rattle.bench_nodes.specs.Places.{are_apart}
use Rattle.bench_nodes.proofs.places.are_apart.Given as goal

abbrev pub invariant-loop-index : goal.invariant-loop-index
invariant-loop-index l = are_apart (take l.index l.slots) ≡ true
