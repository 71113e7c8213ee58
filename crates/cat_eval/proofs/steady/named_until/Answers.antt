use Rattle.std.proofs.Common.{ℕ, ◌≡◌, List, [], ◌∷◌, zero, suc, subst, refl, arith}
use Rattle.std.specs.Prelude.{Some, slice_get}
use Rattle.std.proofs.lemmas.Option.{get_or_from_slice_get, none-some, same_Some}
use denote.Ref.{Bor}
use Rattle.cat_machine.specs.declared.column.Column.{Column}
use Rattle.cat_machine.specs.declared.seen.NamedColumn.{NamedColumn}
use Rattle.cat_machine.specs.Seen.{columns_of}
use Rattle.cat_machine.specs.Steady.{HasSame}
use Rattle.cat_eval.proofs.Visits.{get_within}
use Rattle.cat_eval.proofs.steady.named_until.Goals as goal

column_there : (xs : List NamedColumn) (i : ℕ) (column : Bor Column)
    → slice_get (columns_of xs) i ≡ Some column
    → (x : NamedColumn) × (slice_get xs i ≡ Some x) × (x.column ≡ column)
column_there [] i column at = absurd (none-some column at)
column_there (x ∷ xs) zero column at = (x, refl, same_Some x.column column at)
column_there (x ∷ xs) (suc i) column at = column_there xs i column at

pub returns : goal.returns
returns c = λ k low high index column at.
    let xs = c.args.named.now in
    let (x, here, is) = column_there xs index column at in
    let held = c.loop-one.invariant k low high index (omega (arith, get_within xs x index here, c.loop-one-test.false)) x in
    subst (λ (y : Bor Column). HasSame y.now c.args.candidate k) is (subst
    (λ (y : NamedColumn). HasSame y.column.now c.args.candidate k)
    (get_or_from_slice_get xs index x x here) held)
