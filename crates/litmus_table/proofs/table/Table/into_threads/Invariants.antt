use Rattle.std.proofs.Common.{◌≡◌, ◌++◌, map}
use Rattle.litmus_table.specs.Laws.{steps_of}
use Rattle.litmus_table.specs.Reading.{threads_of}
use Rattle.litmus_table.proofs.table.Table.into_threads.Given as goal

abbrev pub invariant-loop-thread : goal.invariant-loop-thread
invariant-loop-thread l =
    map (λ t. t.steps.items) l.threads.items ++ steps_of (threads_of l.thread-iterator.rest.items)
    ≡ steps_of (threads_of l.fn.self.threads.items)
