use Rattle.std.proofs.Common.{◌≡◌, ◌<◌, ◌≤◌, ℕ, ◌+◌, List, [], ◌∷◌, ◌++◌, length, drop, get_or, append_assoc, sym, ap, ◌∙◌}
use Rattle.std.proofs.lemmas.List.{append-nil, at_drop_more, drop_all}

-- the item at an index is the first of those from there on
pub item_next : {X : Type 0} (xs : List X) (i : ℕ) (x : X) → i < length xs → x ≡ get_or xs i x
    → drop i xs ≡ x ∷ drop (i + 1) xs
item_next {X} xs i x l e =
    at_drop_more (λ ys. ys) xs i x l ∙ ap (λ (y : X). y ∷ drop (i + 1) xs) (sym e)

-- a loop's step that pushes what comes next
pub pushed_next : {X : Type 0} (done next rest left all : List X) (x : X) → next ≡ done ++ x ∷ []
    → rest ≡ x ∷ left → done ++ rest ≡ all → next ++ left ≡ all
pushed_next done next rest left all x n r h = rw (n, append_assoc) (rw r at h)

-- the end of such a loop, which pushes what each item of a list comes to
pub pushed_all : {X Y : Type 0} (of : List X → List Y) (done : List Y) (xs : List X) (i : ℕ)
    → of [] ≡ [] → length xs ≤ i → done ++ of (drop i xs) ≡ of xs → done ≡ of xs
pushed_all of done xs i none l h = sym (append-nil done) ∙ (rw (drop_all i xs l, none) at h)
