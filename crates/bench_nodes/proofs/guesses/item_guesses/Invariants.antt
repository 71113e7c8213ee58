use Rattle.std.proofs.Common.{◌≡◌, true, length, map, take}
use Rattle.bench_nodes.specs.Guesses.{item_spot, are_first}
use Rattle.bench_nodes.proofs.guesses.item_guesses.Given as goal

abbrev pub invariant-loop-index : goal.invariant-loop-index
invariant-loop-index l = record {
  count : length l.guesses.items ≡ l.count;
  first : are_first l.guesses.items 0 (map (item_spot l.count) (take l.index l.rows)) ≡ true;
}
