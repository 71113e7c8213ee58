use Rattle.std.proofs.Common.{◌≡◌, ℕ, ◌<◌, ◌==◌, false, get_or}
use Rattle.bench_texts.proofs.model.index_of.Given as goal

abbrev pub invariant-loop-index : goal.invariant-loop-index
invariant-loop-index l = (k : ℕ) → k < l.index → (get_or l.numbers k 0 == l.number) ≡ false
