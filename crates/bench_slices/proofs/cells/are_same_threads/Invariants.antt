use Rattle.std.proofs.Common.{◌≡◌, ◌↔◌, map, length, drop}
use Rattle.text_values.specs.TestValue.{thread_steps}
use Rattle.bench_slices.proofs.cells.are_same_threads.Given as goal

abbrev pub invariant-loop-this : goal.invariant-loop-this
invariant-loop-this l =
    (map thread_steps l.first ≡ map thread_steps l.second)
    ↔ (map thread_steps (drop (length l.yielded) l.first)
    ≡ map thread_steps (drop (length l.yielded) l.second))
