use Rattle.std.proofs.Common.{ℕ, ◌≡◌, ◌<◌, List, Option, get_or}
use Rattle.bench_values.proofs.same.same_flags.Given as goal

abbrev pub invariant-loop-index : goal.invariant-loop-index
invariant-loop-index l =
    (k : ℕ) (d : Option (List ℕ)) → k < l.index → get_or l.these k d ≡ get_or l.those k d
