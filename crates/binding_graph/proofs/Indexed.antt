-- The tables of what is used, which grow with entries of what is not used.
use Rattle.std.proofs.Common.{ℕ, ◌≡◌, ◌≤◌, ◌-◌, List, [], ◌∷◌, ◌++◌, zero, suc, get_or, length, take, refl}
use Rattle.std.proofs.lemmas.List.{take_all}
use Rattle.std.specs.Prelude.{replicate}

none_at : {X : Type 0} (none : X) (n i : ℕ) → get_or (replicate n none) i none ≡ none
none_at none zero i = refl
none_at none (suc n) zero = refl
none_at none (suc n) (suc i) = none_at none n i

more_none : {X : Type 0} (none : X) (xs : List X) (n i : ℕ)
    → get_or (xs ++ replicate n none) i none ≡ get_or xs i none
more_none none [] n i = none_at none n i
more_none none (x ∷ xs) n zero = refl
more_none none (x ∷ xs) n (suc i) = more_none none xs n i

pub widened : {X : Type 0} (none : X) (xs : List X) (n i : ℕ) → length xs ≤ n
    → get_or (take n xs ++ replicate (n - length xs) none) i none ≡ get_or xs i none
widened none xs n i fits = rw (take_all n xs fits) (more_none none xs (n - length xs) i)
