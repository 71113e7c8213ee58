-- What holds of answers that are given on.
use Rattle.std.proofs.Common.{◌≡◌, Result, Ok, Err, sym, subst}
use Rattle.std.specs.Prelude.{IfOk, OnOk}

-- what holds anyway
pub on_ok : {T E P : Type 0} (r : Result T E) → P → OnOk r P
on_ok (Ok x) p = p
on_ok (Err e) p = tt

-- what holds of the one that it is
pub if_same : {T E : Type 0} (r : Result T E) (x : T) (P : T → Type 0) → P x → IfOk r (λ y. y ≡ x)
    → IfOk r P
if_same (Ok y) x P p same = subst P (sym same) p
if_same (Err e) x P p same = tt
