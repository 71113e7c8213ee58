use Rattle.std.proofs.Common.{◌≡◌, ◌++◌, drop}
use Rattle.std.specs.Prelude.{codes, map}
use Rattle.text_values.specs.ModelValues.{term_of}
use Rattle.cat_printing.specs.Printing.{printed_term}
use Rattle.text_values.specs.Joined.{joined}
use Rattle.text_values.proofs.Separated.{from}
use Rattle.cat_printing.proofs.print.+print.Given as goal

abbrev pub invariant-put_arguments-loop-i : goal.invariant-put_arguments-loop-i
invariant-put_arguments-loop-i l =
    l.text.items
    ++ from (codes ", ") l.i (map (λ e. printed_term (term_of e)) (drop l.i l.arguments))
    ≡ l.initial.text.items ++ joined (codes ", ") (map printed_term (map term_of l.arguments))
