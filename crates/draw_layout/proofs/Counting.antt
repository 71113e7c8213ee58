-- A count over a list is less than another where each that counts there counts here, and one more.
use Rattle.std.proofs.Common.{◌≡◌, ℕ, ◌+◌, ◌<◌, ◌≤◌, List, length, get_or, take, drop, Bool, true, false, cond, refl, sym, ap, subst, arith}
use Rattle.std.specs.List.{count_by, sum_by}
use Rattle.std.proofs.lemmas.List.Sums.{sum_by-take-drop, sum_by-drop_more, sum_by-le-sum_by}

each_le : (b c : Bool) → (b ≡ true → c ≡ true) → cond b 1 0 ≤ cond c 1 0
each_le true c h =
    let here : true ≡ c = sym (h refl) in subst (λ (v : Bool). 1 ≤ cond v 1 0) here (omega arith)
each_le false c h = omega arith

pub count_le : {X : Type 0} (p q : X → Bool) (xs : List X)
    → ((x : X) → q x ≡ true → p x ≡ true) → count_by q xs ≤ count_by p xs
count_le p q xs all =
    sum_by-le-sum_by (λ x. cond (q x) 1 0) (λ x. cond (p x) 1 0) xs
    (λ x. each_le (q x) (p x) (all x))

pub count_lt : {X : Type 0} (p q : X → Bool) (xs : List X) (i : ℕ) (d : X) → i < length xs
    → ((x : X) → q x ≡ true → p x ≡ true) → p (get_or xs i d) ≡ true → q (get_or xs i d) ≡ false
    → count_by q xs < count_by p xs
count_lt {X} p q xs i d lt all passes fails =
    let f : X → ℕ = λ x. cond (q x) 1 0 in
    let g : X → ℕ = λ x. cond (p x) 1 0 in
    let fe : f (get_or xs i d) ≡ 0 = ap (λ (b : Bool). cond b 1 0) fails in
    let ge : g (get_or xs i d) ≡ 1 = ap (λ (b : Bool). cond b 1 0) passes in
    let before : sum_by f (take i xs) ≤ sum_by g (take i xs) = count_le p q (take i xs) all in
    let after : sum_by f (drop (i + 1) xs) ≤ sum_by g (drop (i + 1) xs) = count_le p q (drop (i + 1) xs) all in
    let f1 : sum_by f (take i xs) + sum_by f (drop i xs) ≡ sum_by f xs = sum_by-take-drop f xs i in
    let g1 : sum_by g (take i xs) + sum_by g (drop i xs) ≡ sum_by g xs = sum_by-take-drop g xs i in
    let f2 : sum_by f (drop i xs) ≡ f (get_or xs i d) + sum_by f (drop (i + 1) xs) = sum_by-drop_more f xs i d lt in
    let g2 : sum_by g (drop i xs) ≡ g (get_or xs i d) + sum_by g (drop (i + 1) xs) = sum_by-drop_more g xs i d lt in
    omega (arith, fe, ge, before, after, f1, g1, f2, g2)
