use Rattle.std.proofs.Common.{◌≡◌, ap, ◌++◌, subst, List, ℕ}
use Rattle.std.specs.Prelude.{codes, OnOk}
use Rattle.text_values.specs.ModelValues.{term_of}
use Rattle.cat_printing.specs.Printing.{printed_term}
use Rattle.cat_printing.proofs.Separated.{from_all_of}
use Rattle.cat_printing.proofs.Applied.{applied_whole}
use Rattle.cat_printing.proofs.print.+print.Goals as goal

pub put_arguments-loop-i-init : goal.put_arguments-loop-i-init
put_arguments-loop-i-init t c =
    ap (λ l. c.args.text.now.items ++ l) (from_all_of printed_term term_of (codes ", ")
    c.args.arguments.now)

pub put_expression-returns-in_ok-put_arguments-in-Applied : goal.put_expression-returns-in_ok-put_arguments-in-Applied
put_expression-returns-in_ok-put_arguments-in-Applied t c =
    subst (λ (l : List ℕ).
    OnOk c.put_bytes-in-Applied-3.result (c.put_bytes-in-Applied-3.new.text.items ≡ l))
    (applied_whole _ _ _ _ _ _ _ _ _ c.in-Applied.is c.as_bytes-in-Applied.ensures
    c.deref-in-Applied.ensures.value c.in_ok-put_bytes-in-Applied.ensures
    c.in_ok-put_bytes-in-Applied-2.ensures c.in_ok-put_arguments-in-Applied.ensures)
    c.put_bytes-in-Applied-3.ensures
