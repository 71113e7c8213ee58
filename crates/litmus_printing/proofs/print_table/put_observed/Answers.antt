use Rattle.std.proofs.Common.{ap, ◌++◌}
use Rattle.std.specs.Prelude.{codes, map}
use Rattle.litmus_printing.specs.Printing.{item_text}
use Rattle.text_values.proofs.Separated.{from_first}
use Rattle.litmus_printing.proofs.print_table.put_observed.Goals as goal

pub loop-i-init : goal.loop-i-init
loop-i-init c =
    ap (λ l. c.put_bytes.new.text.items ++ l)
    (from_first (codes " ") (map item_text c.args.observed.now))
