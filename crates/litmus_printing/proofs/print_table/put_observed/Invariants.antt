use Rattle.std.proofs.Common.{◌≡◌, ◌++◌, drop}
use Rattle.std.specs.Prelude.{codes, map}
use Rattle.litmus_printing.specs.Printing.{item_text}
use Rattle.text_values.specs.Joined.{joined}
use Rattle.text_values.proofs.Separated.{from}
use Rattle.litmus_printing.proofs.print_table.put_observed.Given as goal

abbrev pub invariant-loop-i : goal.invariant-loop-i
invariant-loop-i l =
    l.text.items ++ from (codes " ") l.i (map item_text (drop l.i l.observed))
    ≡ l.initial.text.items ++ joined (codes " ") (map item_text l.observed)
