use Rattle.std.proofs.Common.{◌≡◌, ℕ, ◌<◌, ◌≤◌, false, ◌&&◌, slice_index_or}
use Rattle.outcome_states.specs.Kept.{holds_at}
use Rattle.verdict.proofs.judgement.keep_where.Given as goal

abbrev pub invariant-loop-index : goal.invariant-loop-index
invariant-loop-index l =
    ((k : ℕ) → k < l.index
    → slice_index_or l.kept k false
    ≡ (slice_index_or l.initial.kept k false && holds_at k l.holds))
    × ((k : ℕ) → l.index ≤ k
    → slice_index_or l.kept k false ≡ slice_index_or l.initial.kept k false)
