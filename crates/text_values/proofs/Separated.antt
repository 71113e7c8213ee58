-- Lists that are printed one after another.
use Rattle.std.proofs.Common.{◌≡◌, ℕ, suc, ◌+◌, List, [], ◌∷◌, ◌++◌, refl, ap, ◌∙◌, arith}
use Rattle.std.proofs.lemmas.List.{append-nil}
use Rattle.text_values.specs.Joined.{joined, separation}

-- what is left to print from the i-th on
abbrev pub from : List ℕ → ℕ → List (List ℕ) → List ℕ
from sign i [] = []
from sign i (t ∷ ts) = separation sign i ++ (t ++ from sign (i + 1) ts)

behind_first : (sign : List ℕ) (i : ℕ) (t : List ℕ) (ts : List (List ℕ))
    → t ++ from sign (suc i) ts ≡ joined sign (t ∷ ts)
behind_first sign i t [] = append-nil t
behind_first sign i t (u ∷ us) =
    let next : suc i + 1 ≡ suc (i + 1) = omega arith in
    ap (λ k. t ++ (sign ++ (u ++ from sign k us))) next
    ∙ ap (λ l. t ++ (sign ++ l)) (behind_first sign (i + 1) u us)

pub from_first : (sign : List ℕ) (ts : List (List ℕ)) → from sign 0 ts ≡ joined sign ts
from_first sign [] = refl
from_first sign (t ∷ ts) = behind_first sign 0 t ts
