-- Lists of lists that were mapped before.
use Rattle.std.proofs.Common.{◌≡◌, ◌<◌, ℕ, zero, suc, List, [], ◌∷◌, ◌++◌, length, get_or, map, refl, ap, arith}
use Rattle.std.specs.List.{flat_map}

pub mapped_twice : {X Y Z : Type 0} (f : Y → Z) (g : X → Y) (xs : List X)
    → map f (map g xs) ≡ map (λ x. f (g x)) xs
mapped_twice f g [] = refl
mapped_twice f g (x ∷ xs) = ap (λ l. f (g x) ∷ l) (mapped_twice f g xs)

pub parts_of_mapped : {X Y A : Type 0} (f : Y → List A) (g : X → Y) (xs : List X)
    → flat_map f (map g xs) ≡ flat_map (λ x. f (g x)) xs
parts_of_mapped f g [] = refl
parts_of_mapped f g (x ∷ xs) = ap (λ l. f (g x) ++ l) (parts_of_mapped f g xs)

pub mapped_at : {X Y : Type 0} (f : X → Y) (xs : List X) (i : ℕ) (x : X) (d : Y) → i < length xs
    → f (get_or xs i x) ≡ get_or (map f xs) i d
mapped_at f [] i x d h = absurd (omega (arith, h))
mapped_at f (y ∷ ys) zero x d h = refl
mapped_at f (y ∷ ys) (suc i) x d h = mapped_at f ys i x d (omega (arith, h))
