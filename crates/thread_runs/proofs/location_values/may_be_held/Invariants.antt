use Rattle.std.proofs.Common.{ℕ, ◌≡◌, ◌<◌, false}
use Rattle.thread_runs.specs.LocationValues.{thread_may_store}
use Rattle.thread_runs.proofs.location_values.may_be_held.Given as goal

abbrev pub invariant-loop-thread : goal.invariant-loop-thread
invariant-loop-thread l =
    (t : ℕ) → t < l.thread → thread_may_store l.program l.location l.value t ≡ false
