-- What an equation of two lists says of their first elements and of the others. Its terms are cheap
-- where `cc` would first compute all that is known beside the equation.
use Rattle.std.proofs.Common.{◌≡◌, List, [], ◌∷◌}

-- an empty list has no first element
pub no_first : {A : Type 0} {x : A} {xs : List A} → [] ≡ x ∷ xs → ⊥
no_first e = absurd cc

pub same_first : {A : Type 0} {x y : A} {xs ys : List A} → x ∷ xs ≡ y ∷ ys → x ≡ y
same_first e = cc

pub same_others : {A : Type 0} {x y : A} {xs ys : List A} → x ∷ xs ≡ y ∷ ys → xs ≡ ys
same_others e = cc
