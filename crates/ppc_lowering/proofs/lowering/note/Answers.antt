use Rattle.std.proofs.Common.{List, ℕ, ◌<◌, ◌≡◌, ◌∙◌, length, ap, subst}
use Rattle.std.specs.List.{insert, HoldsAt}
use Rattle.std.specs.declared.cmp.Ordering.TheVariants.{Equal}
use Rattle.ppc_lowering.specs.Lowering.{name_cmp}
use Rattle.ppc_lowering.proofs.Sorting.{found_noted, added_rises, added_noted}
use Rattle.ppc_lowering.proofs.lowering.note.Goals as goal

pub returns-in-Ok-clause-noted : goal.returns-in-Ok-clause-noted
returns-in-Ok-clause-noted c =
    let same = c.deref.ensures.value in
    found_noted _ c.args.name.now c.in-Ok.field-0
    (subst (λ (xs : List (List ℕ)). c.in-Ok.field-0 < length xs) same c.in-Ok.ensures.bound)
    (subst
    (λ (xs : List (List ℕ)).
    HoldsAt (λ y. name_cmp y c.args.name.now ≡ Equal) xs c.in-Ok.field-0) same
    c.in-Ok.ensures.position)

pub returns-in_ok-insert-in-Err-clause-rising : goal.returns-in_ok-insert-in-Err-clause-rising
returns-in_ok-insert-in-Err-clause-rising c =
    added_rises _ _ _ c.args.name.now c.in-Err.index c.requires c.deref.ensures.value
    c.in-Err.ensures.bound c.in-Err.ensures.position (c.in_ok-insert-in-Err.ensures.items
    ∙ ap (λ (x : List ℕ). insert c.args.names.now.items c.in-Err.index x)
    c.in_ok-copy-in-Err.ensures)

pub returns-in_ok-insert-in-Err-clause-noted : goal.returns-in_ok-insert-in-Err-clause-noted
returns-in_ok-insert-in-Err-clause-noted c =
    added_noted _ _ c.args.name.now c.in-Err.index (c.in_ok-insert-in-Err.ensures.items
    ∙ ap (λ (x : List ℕ). insert c.args.names.now.items c.in-Err.index x)
    c.in_ok-copy-in-Err.ensures)
