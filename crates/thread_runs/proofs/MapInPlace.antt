-- A list whose elements are replaced from the front on.
use Rattle.std.proofs.Common.{ℕ, zero, suc, ◌≡◌, ◌<◌, ◌+◌, List, [], ◌∷◌, ◌++◌, map, take, drop, length, get_or, set, refl, ap, ◌∙◌, arith, add-one}

get_or-prefix : {A : Type 0} (f : A → A) (xs : List A) (i : ℕ) (d : A) → i < length xs
    → get_or (map f (take i xs) ++ drop i xs) i d ≡ get_or xs i d
get_or-prefix f [] i d lt = absurd (omega arith)
get_or-prefix f (x ∷ xs) zero d lt = refl
get_or-prefix f (x ∷ xs) (suc i) d lt = get_or-prefix f xs i d (omega arith)

set-prefix : {A : Type 0} (f : A → A) (xs : List A) (i : ℕ) (d : A) → i < length xs
    → set (map f (take i xs) ++ drop i xs) i (f (get_or xs i d))
    ≡ map f (take (suc i) xs) ++ drop (suc i) xs
set-prefix f [] i d lt = absurd (omega arith)
set-prefix f (x ∷ xs) zero d lt = refl
set-prefix f (x ∷ xs) (suc i) d lt =
    ap (λ (ys : List _). f x ∷ ys) (set-prefix f xs i d (omega arith))

pub map_more : {A : Type 0} (f : A → A) (xs ys : List A) (i : ℕ) (d y : A) → i < length xs
    → ys ≡ map f (take i xs) ++ drop i xs → y ≡ f (get_or ys i d)
    → set ys i y ≡ map f (take (i + 1) xs) ++ drop (i + 1) xs
map_more f xs ys i d y lt prefix new =
    let same : get_or ys i d ≡ get_or xs i d = ap (λ (zs : List _). get_or zs i d) prefix ∙ get_or-prefix f xs i d lt in
    let here : y ≡ f (get_or xs i d) = new ∙ ap f same in
    rw add-one (ap (λ (zs : List _). set zs i y) prefix
    ∙ ap (set (map f (take i xs) ++ drop i xs) i) here ∙ set-prefix f xs i d lt)
