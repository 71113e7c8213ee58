use Rattle.std.proofs.Common.{◌≡◌, ℕ, ◌<◌, false, map, take, slice_index_or, vec_len}
use Rattle.outcome_states.specs.Kept.{is_kept}
use Rattle.verdict.proofs.judgement.kept_candidates.Given as goal

abbrev pub invariant-loop-holds : goal.invariant-loop-holds
invariant-loop-holds l =
    (vec_len l.kept ≡ l.candidates)
    × ((k : ℕ) → k < l.candidates
    → slice_index_or l.kept.items k false
    ≡ is_kept (map (λ c. c.now) (take l.holds-index l.checks)) k)
