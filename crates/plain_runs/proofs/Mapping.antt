-- What stands in a list that is mapped, as far as a loop has come.
use Rattle.std.proofs.Common.{◌≡◌, inl, inr, ℕ, ◌+◌, ◌<◌, ◌≤◌, List, [], ◌∷◌, ◌++◌, length, map, take, get_or, Contains, Bool, true, false, sym, ap, subst, ◌∙◌, arith}
use Rattle.std.specs.Prelude.{IsTrue}
use Rattle.std.proofs.lemmas.List.{take_more, take_all, length-map, get_or-map}
use Rattle.std.proofs.lemmas.List.Elements.{Contains-push_cases}

module _ {X Y : Type 0} (f : X → Y) where
  pub there_at : (xs : List X) (k : ℕ) (d : X) (y : Y) → k < length xs → f (get_or xs k d) ≡ y
      → Contains (map f xs) y
  there_at xs k d y lt is = (
    k,
    (let e : _ = length-map xs f in omega (arith, e, lt)),
    get_or-map f xs k d y lt ∙ is,
  )

  pub mapped_more : (xs : List X) (k : ℕ) (d : X) → k < length xs
      → take (k + 1) (map f xs) ≡ take k (map f xs) ++ f (get_or xs k d) ∷ []
  mapped_more xs k d lt =
      take_more (map f xs) k (f d) (let e : _ = length-map xs f in omega (arith, e, lt))
      ∙ ap (λ (y : Y). take k (map f xs) ++ y ∷ []) (get_or-map f xs k d (f d) lt)

  pub mapped_all : (xs : List X) (k : ℕ) → length xs ≤ k → take k (map f xs) ≡ map f xs
  mapped_all xs k le =
      take_all k (map f xs) (let e : _ = length-map xs f in omega (arith, e, le))

  pub none_more : (xs : List X) (k : ℕ) (d : X) (y : Y) → k < length xs
      → (f (get_or xs k d) ≡ y → ⊥) → (Contains (take k (map f xs)) y → ⊥)
      → Contains (take (k + 1) (map f xs)) y → ⊥
  none_more xs k d y lt other before there =
      elim (Contains-push_cases (take k (map f xs)) (f (get_or xs k d)) y (subst (λ (l : List Y). Contains l y) (mapped_more xs k d lt) there)) [
        | inl earlier ↦ before earlier
        | inr at ↦ other at
      ]

  pub none_all : (xs : List X) (k : ℕ) (y : Y) → length xs ≤ k
      → (Contains (take k (map f xs)) y → ⊥) → Contains (map f xs) y → ⊥
  none_all xs k y le none there =
      none (subst (λ (l : List Y). Contains l y) (sym (mapped_all xs k le)) there)

pub not_true : (b : Bool) → b ≡ false → IsTrue b → ⊥
not_true b e is = let h : false ≡ true = sym e ∙ is in cc
