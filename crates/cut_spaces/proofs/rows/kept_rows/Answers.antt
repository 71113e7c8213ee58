use Rattle.std.proofs.Common.{◌∙◌, List, ℕ, ap, subst}
use Rattle.store_orders.specs.Rows.{rows_of}
use Rattle.store_orders.specs.declared.combination.Event.{Event}
use Rattle.cut_spaces.specs.Rows.{KeepsRows}
use Rattle.cut_spaces.proofs.Passing.{all_stay}
use Rattle.cut_spaces.proofs.rows.kept_rows.Goals as goal

pub returns-then-len-lt2 : goal.returns-then-len-lt2
returns-then-len-lt2 c =
    subst
    (λ (l : List (List ℕ)). KeepsRows c.args.item.now c.args.combination.now l c.in_ok-rows.rows)
    (c.in_ok-rows.ensures
    ∙ ap (λ (es : List Event). rows_of es c.args.location) c.deref.ensures.value)
    (all_stay c.args.item.now c.args.combination.now c.in_ok-rows.rows 0 0)
