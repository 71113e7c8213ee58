use Rattle.std.proofs.Common.{ℕ, ◌≡◌, ◌<◌, get_or, slice_get}
use Rattle.bench_slices.proofs.lists.are_same_numbers.Given as goal

abbrev pub invariant-loop-index : goal.invariant-loop-index
invariant-loop-index l =
    (k : ℕ) → k < l.index
    → slice_get l.first (get_or l.indexes k 0) ≡ slice_get l.second (get_or l.others k 0)
