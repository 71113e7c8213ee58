use Rattle.std.proofs.Common.{ap, ◌++◌}
use Rattle.std.specs.Prelude.{codes}
use Rattle.text_values.specs.ModelValues.{shown_term}
use Rattle.cat_printing.specs.Printing.{shown_text}
use Rattle.cat_printing.proofs.Separated.{from_all_of}
use Rattle.cat_printing.proofs.print.put_shown.Goals as goal

pub loop-i-init : goal.loop-i-init
loop-i-init c =
    ap (λ l. c.args.text.now.items ++ l) (from_all_of shown_text shown_term (codes ", ")
    c.args.shown.now)
