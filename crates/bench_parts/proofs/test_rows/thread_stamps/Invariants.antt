use Rattle.std.proofs.Common.{◌≡◌, ℕ, ◌<◌, length, get_or, option_map}
use Rattle.bench_parts.specs.Stamps.{IsStampOf}
use Rattle.bench_parts.specs.Tests.{entry_of, thread_at, thread_by, thread_stamp_by}
use Rattle.bench_parts.proofs.test_rows.thread_stamps.Given as goal

abbrev pub invariant-loop-k : goal.invariant-loop-k
invariant-loop-k l =
    (length l.stamps.items ≡ l.k)
    × ((k : ℕ) → k < l.k
    → IsStampOf l.fresh (thread_by (option_map (λ h. entry_of h.now) l.before) k)
    (thread_stamp_by (option_map (λ h. entry_of h.now) l.before) k)
    (thread_at l.threads k) (get_or l.stamps.items k 0))
