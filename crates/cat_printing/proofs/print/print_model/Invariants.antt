use Rattle.std.proofs.Common.{◌≡◌, ◌++◌, drop}
use Rattle.std.specs.Prelude.{map}
use Rattle.text_values.specs.ModelValues.{clause_of, clauses_of}
use Rattle.cat_printing.specs.Printing.{lines, printed_item, printed_model}
use Rattle.cat_printing.proofs.print.print_model.Given as goal

abbrev pub invariant-loop-item : goal.invariant-loop-item
invariant-loop-item l =
    l.text.items
    ++ lines (map (λ i. printed_item (clause_of i)) (drop l.item-index l.model.items.items))
    ≡ l.initial.text.items ++ printed_model (clauses_of l.model.items.items)
