-- Lists of values of which something holds at each index.
use Rattle.std.proofs.Common.{ℕ, ◌≡◌, ◌<◌, zero, suc, List, [], ◌∷◌, length, get_or, refl, ap, arith}

put_before : {X : Type 0} (P : ℕ → X → Type 0) (n : ℕ) (x : X) (xs : List X) → P 0 x
    → ((k : ℕ) (d : X) → k < n → P (suc k) (get_or xs k d)) → (k : ℕ) (d : X) → k < suc n
    → P k (get_or (x ∷ xs) k d)
put_before P n x xs p rest zero d lt = p
put_before P n x xs p rest (suc k) d lt = rest k d (omega (arith, lt))

-- where it holds of some value at each index, there is a list of such values
pub chosen : {X : Type 0} (n : ℕ) (P : ℕ → X → Type 0) → ((k : ℕ) → k < n → (x : X) × P k x)
    → (xs : List X) × (length xs ≡ n) × ((k : ℕ) (d : X) → k < n → P k (get_or xs k d))
chosen zero P h = ([], refl, λ k d lt. absurd (omega (arith, lt)))
chosen (suc n) P h =
    let (x, p) = h 0 (omega arith) in
    let (xs, long, rest) = chosen n (λ k y. P (suc k) y) (λ k lt. h (suc k) (omega (arith, lt))) in
    (x ∷ xs, ap suc long, put_before P n x xs p rest)
