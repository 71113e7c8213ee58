-- Lists that are printed one after another.
use Rattle.std.proofs.Common.{◌≡◌, ℕ, List, [], ◌∷◌, refl, ap, ◌∙◌}
use Rattle.std.specs.Prelude.{map}
use Rattle.text_values.specs.Joined.{joined}
use Rattle.text_values.proofs.Separated.{from, from_first}

pub map_both : {A B : Type 0} (f : B → List ℕ) (g : A → B) (xs : List A)
    → map (λ x. f (g x)) xs ≡ map f (map g xs)
map_both f g [] = refl
map_both f g (x ∷ xs) = ap (λ l. f (g x) ∷ l) (map_both f g xs)

pub from_all_of : {A B : Type 0} (f : B → List ℕ) (g : A → B) (sign : List ℕ) (xs : List A)
    → from sign 0 (map (λ x. f (g x)) xs) ≡ joined sign (map f (map g xs))
from_all_of f g sign xs =
    from_first sign (map (λ x. f (g x)) xs) ∙ ap (joined sign) (map_both f g xs)
