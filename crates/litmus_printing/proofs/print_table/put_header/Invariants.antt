use Rattle.std.proofs.Common.{◌≡◌, ◌++◌, ◌-◌}
use Rattle.std.specs.Prelude.{codes}
use Rattle.litmus_printing.specs.Printing.{names}
use Rattle.text_values.specs.Joined.{joined}
use Rattle.text_values.proofs.Separated.{from}
use Rattle.litmus_printing.proofs.print_table.put_header.Given as goal

abbrev pub invariant-loop-thread : goal.invariant-loop-thread
invariant-loop-thread l =
    l.text.items ++ from (codes " | ") l.thread (names l.thread (l.threads - l.thread))
    ≡ l.initial.text.items ++ joined (codes " | ") (names 0 l.threads)
