use Rattle.std.proofs.Common.{ℕ, ◌<◌, slice_index_or}
use Rattle.thread_runs.specs.Runs.{IsLess}
use Rattle.thread_runs.proofs.value_set.missing_index.Given as goal

abbrev pub invariant-loop-index : goal.invariant-loop-index
invariant-loop-index l = (k : ℕ) → k < l.index → IsLess (slice_index_or l.values k l.value) l.value
