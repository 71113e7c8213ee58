use Rattle.std.proofs.Common.{◌≡◌, map, take, sum_by, count_by}
use Rattle.text_values.specs.TestValue.{thread_steps}
use Rattle.plain_runs.specs.Counts.{is_line_counted}
use Rattle.plain_runs.proofs.count.count.Given as goal

abbrev pub invariant-loop-thread : goal.invariant-loop-thread
invariant-loop-thread l =
    l.total
    ≡ sum_by (λ lines. count_by (is_line_counted l.counted) lines) (take l.thread-index (map thread_steps l.threads))
