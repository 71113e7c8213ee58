use Rattle.std.proofs.Common.{◌≡◌, drop}
use Rattle.std.specs.Prelude.{map, max}
use Rattle.text_values.specs.TestValue.{thread_steps}
use Rattle.litmus_printing.specs.Printing.{longest}
use Rattle.litmus_printing.proofs.print_table.longest.Given as goal

abbrev pub invariant-loop-thread : goal.invariant-loop-thread
invariant-loop-thread l =
    max l.most (longest (map thread_steps (drop l.thread-index l.threads)))
    ≡ longest (map thread_steps l.threads)
