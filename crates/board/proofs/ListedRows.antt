-- Loops over the rows of a board.
use Rattle.std.proofs.Common.{◌≡◌, ℕ, ◌+◌, ◌<◌, List, [], ◌∷◌, ◌++◌, length, get_or, take, sym, ap, ◌∙◌}
use Rattle.std.proofs.lemmas.List.{take_more, flat_map_more}
use Rattle.std.specs.List.{flat_map}

-- what is listed of an element more
pub listed_more : {X A : Type 0} (f : X → List A) (before after : List A) (xs : List X) (i : ℕ)
    (x : X) → i < length xs → x ≡ get_or xs i x → before ≡ flat_map f (take i xs)
    → after ≡ before ++ f x → after ≡ flat_map f (take (i + 1) xs)
listed_more f before after xs i x inside is so more =
    more ∙ ap (λ t. t ++ f x) so ∙ flat_map_more f [] (take i xs) x
    ∙ ap (λ ys. flat_map f ys)
    (sym (take_more xs i x inside ∙ ap (λ y. take i xs ++ y ∷ []) (sym is)))
