use Rattle.std.proofs.Common.{◌≡◌, ◌++◌, drop}
use Rattle.std.specs.Prelude.{map}
use Rattle.litmus_printing.specs.Printing.{all_of, entry_line}
use Rattle.litmus_printing.proofs.print_table.put_entries.Given as goal

abbrev pub invariant-loop-entry : goal.invariant-loop-entry
invariant-loop-entry l =
    l.text.items ++ all_of (map entry_line (drop l.entry-index l.entries))
    ≡ l.initial.text.items ++ all_of (map entry_line l.entries)
