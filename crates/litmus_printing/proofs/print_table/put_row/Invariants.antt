use Rattle.std.proofs.Common.{◌≡◌, ◌++◌, drop}
use Rattle.std.specs.Prelude.{codes}
use Rattle.text_values.specs.Joined.{joined}
use Rattle.litmus_printing.proofs.Separated.{cells}
use Rattle.text_values.proofs.Separated.{from}
use Rattle.litmus_printing.proofs.print_table.put_row.Given as goal

abbrev pub invariant-loop-i : goal.invariant-loop-i
invariant-loop-i l =
    l.text.items ++ from (codes " | ") l.i (cells l.number (drop l.i l.threads))
    ≡ l.initial.text.items ++ joined (codes " | ") (cells l.number l.threads)
