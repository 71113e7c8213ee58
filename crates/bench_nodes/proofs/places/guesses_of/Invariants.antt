use Rattle.std.proofs.Common.{◌≡◌, true, length, map, take}
use Rattle.bench_nodes.specs.Guesses.{slot_spot, are_first}
use Rattle.bench_nodes.proofs.places.guesses_of.Given as goal

abbrev pub invariant-loop-index : goal.invariant-loop-index
invariant-loop-index l = record {
  count : length l.guesses.items ≡ l.count;
  first : are_first l.guesses.items 0 (map (slot_spot l.count) (take l.index l.slots)) ≡ true;
}
