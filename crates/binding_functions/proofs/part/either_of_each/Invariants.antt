use Rattle.std.proofs.Common.{ℕ, ◌≡◌, ◌<◌, ◌||◌, false, length, get_or}
use Rattle.binding_functions.proofs.part.either_of_each.Given as goal

abbrev pub invariant-loop-index : goal.invariant-loop-index
invariant-loop-index l = record {
  long : length l.both ≡ 8;
  told : (index : ℕ) → index < l.index
      → get_or l.both index false ≡ (get_or l.first index false || get_or l.later index false);
}
