use Rattle.std.proofs.Common.{◌≡◌, ◌++◌, drop}
use Rattle.std.specs.Prelude.{codes, map}
use Rattle.text_values.specs.ModelValues.{binding_of}
use Rattle.cat_printing.specs.Printing.{binding_text}
use Rattle.text_values.specs.Joined.{joined}
use Rattle.text_values.proofs.Separated.{from}
use Rattle.cat_printing.proofs.print.put_bindings.Given as goal

abbrev pub invariant-loop-i : goal.invariant-loop-i
invariant-loop-i l =
    l.text.items
    ++ from (codes " and ") l.i (map (λ b. binding_text (binding_of b)) (drop l.i l.group))
    ≡ l.initial.text.items ++ joined (codes " and ") (map binding_text (map binding_of l.group))
