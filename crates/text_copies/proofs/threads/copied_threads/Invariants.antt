use Rattle.std.proofs.Common.{◌≡◌, map, take}
use Rattle.text_values.specs.TestValue.{thread_steps}
use Rattle.text_copies.proofs.threads.copied_threads.Given as goal

abbrev pub invariant-loop-thread : goal.invariant-loop-thread
invariant-loop-thread l = map thread_steps l.copies.items ≡ map thread_steps (take l.thread-index l.threads)
