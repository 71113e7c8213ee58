use Rattle.std.proofs.Common.{◌≡◌, ◌++◌, ◌-◌}
use Rattle.std.specs.Prelude.{map}
use Rattle.text_values.specs.TestValue.{thread_steps}
use Rattle.litmus_printing.specs.Printing.{rows_text}
use Rattle.litmus_printing.proofs.print_table.put_rows.Given as goal

abbrev pub invariant-loop-number : goal.invariant-loop-number
invariant-loop-number l =
    l.text.items ++ rows_text l.number (l.most - l.number) (map thread_steps l.threads)
    ≡ l.initial.text.items ++ rows_text 0 l.most (map thread_steps l.threads)
