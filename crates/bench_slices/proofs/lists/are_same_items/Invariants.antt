use Rattle.std.proofs.Common.{ℕ, ◌≡◌, ◌<◌, get_or}
use Rattle.bench_slices.specs.Slices.{clause_at}
use Rattle.bench_slices.proofs.lists.are_same_items.Given as goal

abbrev pub invariant-loop-index : goal.invariant-loop-index
invariant-loop-index l =
    (k : ℕ) → k < l.index
    → clause_at l.first (get_or l.indexes k 0) ≡ clause_at l.second (get_or l.others k 0)
