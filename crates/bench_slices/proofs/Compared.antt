-- Two lists, each seen through a function, compared one by one.
use Rattle.std.proofs.Common.{ℕ, zero, suc, ◌<◌, ◌≡◌, List, [], ◌∷◌, map, length, get_or, refl, ap, ◌∙◌, arith}

-- what is the same at each index is the same
pub same_through : {A B C : Type 0} (f : A → C) (g : B → C) (d : A) (e : B)
    → (xs : List A) (ys : List B) → length xs ≡ length ys
    → ((k : ℕ) → k < length xs → f (get_or xs k d) ≡ g (get_or ys k e)) → map f xs ≡ map g ys
same_through f g d e [] [] long each = refl
same_through f g d e [] (y ∷ ys) long each = absurd cc
same_through f g d e (x ∷ xs) [] long each = absurd cc
same_through {C = C} f g d e (x ∷ xs) (y ∷ ys) long each =
    ap (λ (z : C). z ∷ map f xs) (each 0 (omega arith))
    ∙ ap (λ (l : List C). g y ∷ l) (same_through f g d e xs ys (omega (arith, long))
    (λ k lt. each (suc k) (omega (arith, lt))))

-- what is the same is the same at an index
pub same_here : {A B C : Type 0} (f : A → C) (g : B → C) (d : A) (e : B)
    → (xs : List A) (ys : List B) (i : ℕ) → i < length xs → i < length ys → map f xs ≡ map g ys
    → f (get_or xs i d) ≡ g (get_or ys i e)
same_here f g d e [] ys i lt there same = absurd (omega (arith, lt))
same_here f g d e (x ∷ xs) [] i lt there same = absurd (omega (arith, there))
same_here f g d e (x ∷ xs) (y ∷ ys) zero lt there same = cc
same_here f g d e (x ∷ xs) (y ∷ ys) (suc i) lt there same =
    let rest : map f xs ≡ map g ys = cc in same_here f g d e xs ys i (omega (arith, lt)) (omega (arith, there)) rest
