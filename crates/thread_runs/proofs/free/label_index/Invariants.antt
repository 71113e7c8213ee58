use Rattle.std.proofs.Common.{ℕ, ◌≡◌, Some, drop}
use Rattle.thread_runs.specs.FreeRuns.{count_free}
use Rattle.thread_runs.proofs.free.label_index.Given as goal

abbrev pub invariant-loop-index : goal.invariant-loop-index
invariant-loop-index l =
    (size : ℕ)
    → count_free size (drop l.from l.lines) (Some l.label)
    ≡ count_free size (drop l.index l.lines) (Some l.label)
