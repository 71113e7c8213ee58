use Rattle.std.proofs.Common.{◌≡◌, ◌++◌, drop}
use Rattle.std.specs.Prelude.{codes, map}
use Rattle.text_values.specs.ModelValues.{shown_term}
use Rattle.cat_printing.specs.Printing.{shown_text}
use Rattle.text_values.specs.Joined.{joined}
use Rattle.text_values.proofs.Separated.{from}
use Rattle.cat_printing.proofs.print.put_shown.Given as goal

abbrev pub invariant-loop-i : goal.invariant-loop-i
invariant-loop-i l =
    l.text.items ++ from (codes ", ") l.i (map (λ s. shown_text (shown_term s)) (drop l.i l.shown))
    ≡ l.initial.text.items ++ joined (codes ", ") (map shown_text (map shown_term l.shown))
