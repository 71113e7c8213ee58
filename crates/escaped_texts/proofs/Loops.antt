-- A list that is printed element by element.
use Rattle.std.proofs.Common.{◌≡◌, ℕ, ◌+◌, ◌<◌, ◌≤◌, List, [], ◌∷◌, ◌++◌, length, get_or, take, sym, ap, ◌∙◌}
use Rattle.std.proofs.lemmas.List.{take_more, take_all, flat_map_more}
use Rattle.std.specs.List.{flat_map}

pub printed_more : {X A : Type 0} (f : X → List A) (first before after : List A) (xs : List X)
    (i : ℕ) (x : X) → i < length xs → x ≡ get_or xs i x
    → before ≡ first ++ flat_map f (take i xs) → after ≡ before ++ f x
    → after ≡ first ++ flat_map f (take (i + 1) xs)
printed_more f first before after xs i x inside is so more =
    more ∙ ap (λ t. t ++ f x) so ∙ flat_map_more f first (take i xs) x
    ∙ ap (λ ys. first ++ flat_map f ys)
    (sym (take_more xs i x inside ∙ ap (λ y. take i xs ++ y ∷ []) (sym is)))

pub printed_all : {X A : Type 0} (f : X → List A) (first after : List A) (xs : List X) (i : ℕ)
    → length xs ≤ i → after ≡ first ++ flat_map f (take i xs) → after ≡ first ++ flat_map f xs
printed_all f first after xs i all so = so ∙ ap (λ ys. first ++ flat_map f ys) (take_all i xs all)
