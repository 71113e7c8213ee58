use Rattle.std.proofs.Common.{ℕ, ◌≡◌, ◌<◌, get_or}
use Rattle.bench_slices.specs.Slices.{uses_at}
use Rattle.bench_slices.proofs.uses.are_same_uses.Given as goal

abbrev pub invariant-loop-index : goal.invariant-loop-index
invariant-loop-index l =
    (k : ℕ) → k < l.index
    → uses_at l.first.numbers.now l.first.resolved.now (get_or l.first.used.now k 0)
    ≡ uses_at l.second.numbers.now l.second.resolved.now (get_or l.second.used.now k 0)
