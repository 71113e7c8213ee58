-- What a list with one element more is.
use Rattle.std.proofs.Common.{◌≡◌, suc, List, [], ◌∷◌, ◌++◌, length, refl, arith, length-append}
use Rattle.std.specs.Prelude.{fold}
use mathlib.Core.List.{IsPrefix}

pub fold_push : {A B : Type 0} (f : B → A → B) (b : B) (xs : List A) (x : A)
    → fold f b (xs ++ x ∷ []) ≡ f (fold f b xs) x
fold_push f b [] x = refl
fold_push f b (y ∷ xs) x = fold_push f (f b y) xs x

-- what a list with one element more begins with, if it is just one shorter, is all but that element
pub all_but_last : {A : Type 0} (xs ys : List A) (y : A) → IsPrefix xs (ys ++ y ∷ [])
    → length (ys ++ y ∷ []) ≡ suc (length xs) → xs ≡ ys
all_but_last [] [] y p n = refl
all_but_last [] (z ∷ ys) y p n = absurd (omega (arith, length-append ys (y ∷ [])))
all_but_last (x ∷ xs) [] y p n = absurd (omega arith)
all_but_last (x ∷ xs) (z ∷ ys) y p n =
    let rest = all_but_last xs ys y (p.0, cc (p.1)) (omega arith) in cc (p.1, rest)

-- what a board becomes by one operation more
pub taken_in : {O B : Type 0} (after : B → O → B) (none board : B) (old before new : List O)
    (op : O)
    → IsPrefix old new → length new ≡ suc (length old) → new ≡ before ++ op ∷ []
    → board ≡ after (fold after none old) op → board ≡ fold after none new
taken_in after none board old before new op begins longer is made =
    let begins' : IsPrefix old (before ++ op ∷ []) = rw (← is) begins in
    let longer' : length (before ++ op ∷ []) ≡ suc (length old) = rw (← is) longer in
    let same = all_but_last old before op begins' longer' in
    rw (is, ← same, fold_push after none old op) made
