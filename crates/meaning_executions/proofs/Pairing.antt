-- Of runs that are the same, each has the other at its index.
use Rattle.std.proofs.Common.{ℕ, zero, suc, ◌≡◌, ◌+◌, List, Some, slice_get, refl, ap, subst, arith, length}
use Rattle.std.proofs.lemmas.Option.{same_Some}
use Rattle.text_values.specs.TestValue.{Content}
use Rattle.thread_runs.specs.Runs as by_number
use Rattle.meaning.specs.Runs.{Run}
use Rattle.meaning_executions.specs.ThreadRuns as same
use Rattle.meaning_executions.specs.ThreadRuns.{IsSameThreadRun, AreSameThreadRuns}

pub run_named : (t : Content) (thread : ℕ) {rs : List by_number.Run} {qs : List Run}
    → AreSameThreadRuns t thread rs qs → (k : ℕ) (r : by_number.Run) → slice_get rs k ≡ Some r
    → (q : Run) × (slice_get qs k ≡ Some q) × IsSameThreadRun t (thread + k) r q
run_named t thread same.none k r at = absurd cc
run_named t thread (same.more {r = s} {q = q} one rest) zero r at =
    let zeroth : thread ≡ thread + 0 = omega arith in (
      q,
      refl,
      subst (λ (u : by_number.Run). IsSameThreadRun t (thread + 0) u q) (same_Some _ _ at)
          (subst (λ (n : ℕ). IsSameThreadRun t n s q) zeroth one),
    )
run_named t thread (same.more one rest) (suc k) r at =
    let found : _ = run_named t (suc thread) rest k r at in
    let next : suc thread + k ≡ thread + suc k = omega arith in
    (found.0, found.1, subst (λ (n : ℕ). IsSameThreadRun t n r found.0) next found.2)

pub run_numbered : (t : Content) (thread : ℕ) {rs : List by_number.Run} {qs : List Run}
    → AreSameThreadRuns t thread rs qs → (k : ℕ) (q : Run) → slice_get qs k ≡ Some q
    → (r : by_number.Run) × (slice_get rs k ≡ Some r) × IsSameThreadRun t (thread + k) r q
run_numbered t thread same.none k q at = absurd cc
run_numbered t thread (same.more {r = r} {q = s} one rest) zero q at =
    let zeroth : thread ≡ thread + 0 = omega arith in (
      r,
      refl,
      subst (λ (u : Run). IsSameThreadRun t (thread + 0) r u) (same_Some _ _ at)
          (subst (λ (n : ℕ). IsSameThreadRun t n r s) zeroth one),
    )
run_numbered t thread (same.more one rest) (suc k) q at =
    let found : _ = run_numbered t (suc thread) rest k q at in
    let next : suc thread + k ≡ thread + suc k = omega arith in
    (found.0, found.1, subst (λ (n : ℕ). IsSameThreadRun t n found.0 q) next found.2)
