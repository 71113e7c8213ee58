-- Rows put one behind another.
use Rattle.std.proofs.Common.{◌≡◌, ℕ, ◌+◌, ◌<◌, List, [], ◌∷◌, ◌++◌, length, get_or, take, map, sym, ap, ◌∙◌, subst}
use Rattle.std.proofs.lemmas.List.{take_more, map-append}
use Rattle.std.specs.List.{AllZip}
use Rattle.binding_graph.proofs.Labels.{zip_push}

-- one more of each
pub zip_more : {A B C D : Type 0} (R : A → B → Type 0) (f : C → A) (g : D → B) (xs : List C) (i : ℕ)
    (x : C) (old new : List D) (y : D) → i < length xs → x ≡ get_or xs i x → new ≡ old ++ y ∷ []
    → AllZip R (map f (take i xs)) (map g old) → R (f x) (g y)
    → AllZip R (map f (take (i + 1) xs)) (map g new)
zip_more {A} {B} {C} {D} R f g xs i x old new y inside at_i pushed before r =
    let cut : take (i + 1) xs ≡ take i xs ++ x ∷ [] = take_more xs i x inside ∙ ap (λ (a : C). take i xs ++ a ∷ []) (sym at_i) in
    let fronts : map f (take (i + 1) xs) ≡ map f (take i xs) ++ f x ∷ [] = ap (λ (l : List C). map f l) cut ∙ map-append f (take i xs) (x ∷ []) in
    let ends : map g new ≡ map g old ++ g y ∷ [] = ap (λ (l : List D). map g l) pushed ∙ map-append g old (y ∷ []) in
    subst (λ (l : List A). AllZip R l (map g new)) (sym fronts) (subst
    (λ (l : List B). AllZip R (map f (take i xs) ++ f x ∷ []) l) (sym ends)
    (zip_push R (map f (take i xs)) (map g old) (f x) (g y) before r))
