use Rattle.std.proofs.Common.{ap, ◌++◌}
use Rattle.text_values.specs.ModelValues.{clause_of}
use Rattle.cat_printing.specs.Printing.{lines, printed_item}
use Rattle.cat_printing.proofs.Separated.{map_both}
use Rattle.cat_printing.proofs.print.print_model.Goals as goal

pub loop-item-init : goal.loop-item-init
loop-item-init c =
    ap (λ l. c.new-text.result.items ++ lines l) (map_both printed_item clause_of
    c.args.model.now.items.items)
