use Rattle.std.proofs.Common.{ap, ◌++◌}
use Rattle.std.specs.Prelude.{codes}
use Rattle.text_values.specs.ModelValues.{binding_of}
use Rattle.cat_printing.specs.Printing.{binding_text}
use Rattle.cat_printing.proofs.Separated.{from_all_of}
use Rattle.cat_printing.proofs.print.put_bindings.Goals as goal

pub loop-i-init : goal.loop-i-init
loop-i-init c =
    ap (λ l. c.args.text.now.items ++ l) (from_all_of binding_text binding_of (codes " and ")
    c.args.group.now)
