-- What stands in the parentheses of a printed condition.
use Rattle.std.proofs.Common.{◌≡◌, ◌≤◌, ℕ, zero, suc, ◌-◌, ◌+◌, Bool, true, false, cond, ltb, Option, Some, None, List, [], ◌∷◌, length, take, drop, refl, sym, ap, ◌∙◌, arith, length-drop}
use Rattle.std.specs.Prelude.{◌==◌}
use Rattle.std.specs.List.{position_or_len, after_first}
use Rattle.std.proofs.lemmas.List.{drop_all, take_all}
use Rattle.std.proofs.lemmas.Grind.{common_steps}
use Rattle.outcome_lines.specs.Json.{all_but_last}

some_is : (b : Bool) (p i : ℕ) → Some i ≡ cond b (Some p) None → i ≡ p
some_is true p i e = grind (arith, common_steps)
some_is false p i e = grind (arith, common_steps)

-- behind the byte that was found
pub behind_found : (bs : List ℕ) (i : ℕ) (r : Option ℕ) → r ≡ Some i
    → r ≡ cond (ltb (position_or_len (λ b. b == 40) bs) (length bs)) (Some (position_or_len (λ b. b == 40) bs)) None
    → drop (i + 1) bs ≡ after_first (λ b. b == 40) bs
behind_found bs i r is found =
    let same = some_is (ltb (position_or_len (λ b. b == 40) bs) (length bs)) (position_or_len (λ b. b == 40) bs) i (sym is ∙ found) in
    ap (λ n. drop (n + 1) bs) same

is_past : (b : Bool) (p : ℕ) → None ≡ cond b (Some p) None → b ≡ false
is_past true p e = grind (arith, common_steps)
is_past false p e = refl

-- nothing where none was found
pub behind_none : (bs : List ℕ) (r : Option ℕ) → r ≡ None
    → r ≡ cond (ltb (position_or_len (λ b. b == 40) bs) (length bs)) (Some (position_or_len (λ b. b == 40) bs)) None
    → [] ≡ after_first (λ b. b == 40) bs
behind_none bs r is found =
    let past = is_past (ltb (position_or_len (λ b. b == 40) bs) (length bs)) (position_or_len (λ b. b == 40) bs) (sym is ∙ found) in
    let far : length bs ≤ position_or_len (λ b. b == 40) bs = grind (arith, common_steps) in
    sym (drop_all (position_or_len (λ b. b == 40) bs + 1) bs (omega (arith, far)))

taken : (bs : List ℕ) (n : ℕ) → length bs ≡ suc n → all_but_last bs ≡ take n bs
taken [] n e = absurd (omega (arith, e))
taken (b ∷ []) zero e = refl
taken (b ∷ []) (suc n) e = absurd (omega (arith, e))
taken (b ∷ c ∷ bs) zero e = absurd (omega (arith, e))
taken (b ∷ c ∷ bs) (suc n) e = ap (λ (l : List ℕ). b ∷ l) (taken (c ∷ bs) n (omega (arith, e)))

pub but_last : (bs : List ℕ) (n : ℕ) → n ≡ length bs - 1 → take n bs ≡ all_but_last bs
but_last [] n e = grind (arith, common_steps)
but_last (b ∷ bs) n e = sym (taken (b ∷ bs) n (omega (arith, e)))

pub rest : (bs : List ℕ) (i : ℕ) → take (length bs - i) (drop i bs) ≡ drop i bs
rest bs i = take_all (length bs - i) (drop i bs) (let l = length-drop i bs in omega arith)
