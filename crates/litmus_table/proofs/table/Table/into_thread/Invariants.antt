use Rattle.std.proofs.Common.{◌≡◌}
use Rattle.litmus_table.proofs.table.Table.into_thread.Given as goal

abbrev pub invariant-loop-thread : goal.invariant-loop-thread
invariant-loop-thread l = l.thread-iterator.rest.items ≡ l.fn.self.threads.items
