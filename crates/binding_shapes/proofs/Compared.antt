-- Two lists, seen through a function, compared one by one.
use Rattle.std.proofs.Common.{ℕ, zero, suc, ◌+◌, ◌<◌, ◌≡◌, List, [], ◌∷◌, map, length, get_or, inl, inr, refl, ap, sym, ◌∙◌, arith}
use Rattle.std.proofs.lemmas.Bool.{cases_lt}
use Rattle.std.proofs.lemmas.List.{get_or_default}

module _ {A C : Type 0} (f : A → C) where
  -- up to an index both show the same
  abbrev pub AreSameTo : List A → List A → ℕ → Type 0
  AreSameTo xs ys i = (k : ℕ) (d : A) → k < i → f (get_or xs k d) ≡ f (get_or ys k d)

  pub same_more : (xs ys : List A) (i : ℕ) (x y : A) → i < length xs → i < length ys
      → x ≡ get_or xs i x → y ≡ get_or ys i y → f x ≡ f y → AreSameTo xs ys i
      → AreSameTo xs ys (i + 1)
  same_more xs ys i x y lt there is is' same so_far k d below = elim (cases_lt k i) [
    | inl early ↦ so_far k d early
    | inr late ↦
        let here : k ≡ i = omega (arith, below, late) in
        rw here (ap f (get_or_default xs i d x lt ∙ sym is) ∙ same
        ∙ sym (ap f (get_or_default ys i d y there ∙ sym is')))
  ]

  pub same_through : (xs ys : List A) → length xs ≡ length ys → AreSameTo xs ys (length xs)
      → map f xs ≡ map f ys
  same_through [] [] long each = refl
  same_through [] (y ∷ ys) long each = absurd cc
  same_through (x ∷ xs) [] long each = absurd cc
  same_through (x ∷ xs) (y ∷ ys) long each =
      ap (λ (z : C). z ∷ map f xs) (each 0 x (omega arith))
      ∙ ap (λ (l : List C). f y ∷ l) (same_through xs ys (omega (arith, long))
      (λ k d lt. each (suc k) d (omega (arith, lt))))

  -- what is the same is the same at an index
  pub same_here : (xs ys : List A) (i : ℕ) (x y : A) → i < length xs → i < length ys
      → x ≡ get_or xs i x → y ≡ get_or ys i y → map f xs ≡ map f ys → f x ≡ f y
  same_here [] ys i x y lt there is is' same = absurd (omega (arith, lt))
  same_here (a ∷ xs) [] i x y lt there is is' same = absurd (omega (arith, there))
  same_here (a ∷ xs) (b ∷ ys) zero x y lt there is is' same =
      let heads : f a ≡ f b = cc in ap f is ∙ heads ∙ sym (ap f is')
  same_here (a ∷ xs) (b ∷ ys) (suc i) x y lt there is is' same =
      let rest : map f xs ≡ map f ys = cc in same_here xs ys i x y (omega (arith, lt)) (omega (arith, there)) is is' rest
