use Rattle.std.proofs.Common.{ap, ◌++◌}
use Rattle.std.specs.Prelude.{codes}
use Rattle.litmus_printing.proofs.Separated.{cells}
use Rattle.text_values.proofs.Separated.{from_first}
use Rattle.litmus_printing.proofs.print_table.put_row.Goals as goal

pub loop-i-init : goal.loop-i-init
loop-i-init c =
    ap (λ l. c.args.text.now.items ++ l) (from_first (codes " | ")
    (cells c.args.number c.args.threads.now))
